-- One law for each way through the walk from one side on, and from a row of words on.
use Rattle.std.proofs.Common.{◌≡◌, refl, ap, ap₂, sym, subst, ◌∙◌, Bool, true, false, List, [], ◌∷◌, map, ℕ, suc, ◌+◌, ◌*◌, ◌-◌, ◌<◌, ◌≤◌, arith, ltb, length, get_or, set, take, drop, length-set, drop-cons, ltb-true, ltb-false}
use Rattle.std.proofs.Math.ListN.{get_or-eq_default}
use Rattle.std.specs.Prelude.{Option, Some, None}
use Rattle.parts.specs.Limits.{arity_max, cells_max, names_max}
use Rattle.parts.specs.SegmentLaws.{seg-length}
use Rattle.parts.specs.Sides.{Side, name, cell, side}
use Rattle.parts.specs.Typed.{typed}
use Rattle.parts.specs.declared.Side as Typed
use Rattle.parts.specs.declared.Side.TheVariants.{Name, Cell}
use Rattle.parts.specs.declared.NameNo.{NameNo}
use Rattle.parts.specs.declared.CellNo.{CellNo}
use Rattle.model.specs.State.{St}
use Rattle.model.specs.Table as Model
use Rattle.model.specs.Sound.{width, Sizes, mem_of}
use Rattle.state.specs.Layout.{symbols_at, view}
use Rattle.sound.specs.Lent.{under}
use Rattle.cell_walk.specs.Walks.{past, beyond, again, unused, into, unmet, Steps, Walked, row, Entered, barred, entered, Ready}
use Rattle.cell_walk.proofs.Steps.{Cut, Begins, begins, Left, left_all}

pub unmet-set : (l : List ℕ) (i : ℕ) → i < length l → get_or l i 0 ≡ 0 → unmet l ≡ suc (unmet (set l i 1))
unfolding unmet
unmet-set [] i h e = absurd (omega arith)
unmet-set (ℕ.zero ∷ l) ℕ.zero h e = refl
unmet-set (ℕ.suc v ∷ l) ℕ.zero h e = absurd (omega arith)
unmet-set (ℕ.zero ∷ l) (ℕ.suc i) h e = ap suc (unmet-set l i (omega arith) e)
unmet-set (ℕ.suc v ∷ l) (ℕ.suc i) h e = unmet-set l i (omega arith) e

-- Entering a cell, whose number is i as an index.
pub enter_beyond : (w seen : List ℕ) (c : ℕ) → cells_max ≤ c → Entered (view w).symbols c seen None seen
unfolding view
enter_beyond w seen c h =
    let b : length (view w).symbols ≤ c = omega (arith, seg-length symbols_at cells_max w) in
    barred (λ mem todo. unused (get_or-eq_default (view w).symbols 0 b))

module _ (ss seen : List ℕ) (c i : ℕ) (e : i ≡ c) where
  pub enter_again : ¬ (get_or seen i 0 ≡ 0) → Entered ss c seen None seen
  enter_again h = barred (λ mem todo. again (rw e at h))

  pub enter_unused : (word : ℕ) → word ≡ get_or ss i 0 → word ≡ 0 → Entered ss c seen None seen
  enter_unused word f z = barred (λ mem todo. unused (rw e at (sym f ∙ z)))

  pub enter_new : (word : ℕ) → length seen ≡ cells_max → i < cells_max → get_or seen i 0 ≡ 0 → word ≡ get_or ss i 0 → ¬ (word ≡ 0)
      → Entered ss c seen (Some word) (set seen i 1)
  enter_new word l h n f z = rw e (entered z (rw e at f) (rw e at n) (omega arith))

-- A side by its number.
pub side-name : (a : Side) (x : NameNo) → Name x ≡ typed a → name x.0 ≡ a
side-name (name y) x e = cc
side-name (cell y) x e = absurd (let z : ◌≡◌ {A = ℕ} 0 1 = cc in omega arith)

pub side-cell : (a : Side) (c : CellNo) → Cell c ≡ typed a → cell c.0 ≡ a
side-cell (name y) x e = absurd (let z : ◌≡◌ {A = ℕ} 0 1 = cc in omega arith)
side-cell (cell y) x e = cc

-- A name, and a cell that may not be entered.
module _ (mem : ℕ → Model.Cell) (ss seen : List ℕ) where
  pub name-inside : (x : ℕ) → x < names_max → Steps mem ss (name x ∷ []) seen true seen
  name-inside x h = record { goes = λ todo r k. past h k; size = refl; falls = omega arith }

  pub name-steps : (x : ℕ) → Steps mem ss (name x ∷ []) seen (ltb x names_max) seen
  name-steps x = go (ltb x names_max) refl
    where
      go : (t : Bool) → ltb x names_max ≡ t → Steps mem ss (name x ∷ []) seen t seen
      go true e = name-inside x (ltb-true x names_max e)
      go false e =
          record { goes = λ todo r k. rw k (beyond {x = x} {todo = todo} {seen = seen} (ltb-false x names_max e)); size = refl; falls = omega arith }

  pub visit_name : (word j : ℕ) (q : Typed.Side) (x : NameNo) → q ≡ typed (side word) → q ≡ Name x → j ≡ x.0
      → Steps mem ss (side word ∷ []) seen (ltb j names_max) seen
  visit_name word j q x d m e = rw e (rw (side-name (side word) x (sym m ∙ d)) at (name-steps x.0))

  cell-barred : (c : ℕ) (o : Option ℕ) (seen₁ : List ℕ) → Entered ss c seen o seen₁ → o ≡ None → Steps mem ss (cell c ∷ []) seen false seen₁
  cell-barred c o seen₁ (barred h) z = record { goes = λ todo r k. rw k (h mem todo); size = refl; falls = omega arith }
  cell-barred c o seen₁ (entered k e n i) z = cc

  pub visit_barred : (seen₁ : List ℕ) (word : ℕ) (q : Typed.Side) (c : CellNo) → q ≡ typed (side word) → q ≡ Cell c
      → Entered ss c.0 seen None seen₁ → Steps mem ss (side word ∷ []) seen false seen₁
  visit_barred seen₁ word q c d m e = rw (side-cell (side word) c (sym m ∙ d)) at (cell-barred c.0 None seen₁ e refl)

-- The words of a row are the sides of a part of the list.
pub row-map : (l : List ℕ) (from n : ℕ) → from + n ≤ length l → row l from n ≡ map side (take n (drop from l))
unfolding row
row-map l from ℕ.zero h = refl
row-map l from (ℕ.suc n) h =
    ap (λ m. side (get_or l from 0) ∷ m) (row-map l (suc from) n (omega arith))
    ∙ ap (λ m. map side (take (suc n) m)) (sym (drop-cons l from 0 (omega arith)))

pub row_cut : (l : List ℕ) (from n i word : ℕ) → i < n → word ≡ get_or l (from + i) 0
    → Cut (row l (from + i) (n - i)) (side word ∷ []) (row l (from + (i + 1)) (n - (i + 1)))
unfolding row
row_cut l from n i word h e =
    let q : n - i ≡ suc (n - (i + 1)) = omega arith in
    let p : suc (from + i) ≡ from + (i + 1) = omega arith in
    record { parts = ap (row l (from + i)) q ∙ ap₂ (λ v k. side v ∷ row l k (n - (i + 1))) (sym e) p }

pub row-begins : (l : List ℕ) (from n i word : ℕ) → i < n → word ≡ get_or l (from + i) 0 → Begins (row l (from + i) (n - i)) (side word ∷ [])
row-begins l from n i word h e = begins (row_cut l from n i word h e)

pub row_gone : (l : List ℕ) (from n i : ℕ) → n ≤ i → row l (from + i) (n - i) ≡ []
unfolding row
row_gone l from n i h = let q : n - i ≡ 0 = omega arith in ap (row l (from + i)) q

-- Into a cell.
module _ (w : List ℕ) (s : St) where
  pub row_begin : (l seen : List ℕ) (from n : ℕ) → Left w s (row l from n) seen (row l (from + 0) (n - 0)) seen
  row_begin l seen from n =
      let p : from ≡ from + 0 = omega arith in
      let q : n ≡ n - 0 = omega arith in
      subst (λ m. Left w s (row l from n) seen m seen) (ap₂ (row l) p q) (left_all w s (row l from n) seen)

  cell-args : Sizes s → (c n word : ℕ) → c < cells_max → word ≡ get_or s.symbols c 0 → (n ≡ width (under w).arities word) × (n ≤ arity_max)
      → row s.arguments (arity_max * c) n ≡ (mem_of (under w) s c).args
  cell-args z c n word h e en =
      row-map s.arguments (arity_max * c) n (omega (arith, z.arguments, en.1))
      ∙ ap (λ n. map side (take n (drop (arity_max * c) s.arguments))) (en.0 ∙ ap (width (under w).arities) e)

  cell-into : (seen seen₁ seen₂ : List ℕ) (c r n : ℕ) (o : Option ℕ) (ok : Bool) → Ready s seen → Entered s.symbols c seen o seen₁ → o ≡ Some r
      → (n ≡ width (under w).arities r) × (n ≤ arity_max) → Walked w s (row s.arguments (arity_max * c) n) seen₁ ok seen₂
      → Walked w s (cell c ∷ []) seen ok seen₂
  cell-into seen seen₁ seen₂ c r n o ok z (barred h) k en g = cc
  cell-into seen seen₁ seen₂ c r n o ok z (entered {r = r'} k e v i) q en g =
      let f : r' ≡ r = cc in
      let a = cell-args z.sizes c n r' (omega (arith, z.marks)) e (rw (sym f) at en) in
      record {
        goes = λ todo q h. into v (λ y. k (e ∙ y)) (rw a at (g.goes todo q h));
        size = g.size ∙ length-set seen c 1;
        falls = omega (arith, g.falls, unmet-set seen c i v);
      }

  module _ (seen seen₁ : List ℕ) (c : CellNo) (r : ℕ) (z : Ready s seen) (e : Entered s.symbols c.0 seen (Some r) seen₁) where
    pub visit_into : (seen₂ : List ℕ) (word n k j : ℕ) (q : Typed.Side) (ok : Bool) → q ≡ typed (side word) → q ≡ Cell c
        → n ≡ k → (k ≡ width (under w).arities r) × (k ≤ arity_max) → j ≡ c.0
        → Walked w s (row s.arguments (arity_max * j) n) seen₁ ok seen₂
        → Walked w s (side word ∷ []) seen ok seen₂
    visit_into seen₂ word n k j q ok d m en f ej g =
        rw (side-cell (side word) c (sym m ∙ d)) at (cell-into seen seen₁ seen₂ c.0 r k (Some r) ok z e refl f (rw (en, ej) at g))

  -- What a cell that is entered gives to the walk of its arguments.
  ready-after : (seen seen₁ : List ℕ) (c : ℕ) (o : Option ℕ) → Ready s seen → Entered s.symbols c seen o seen₁ → Ready s seen₁
  ready-after seen seen₁ c o z (barred h) = z
  ready-after seen seen₁ c o z (entered k e v i) = record { sizes = z.sizes; marks = length-set seen c 1 ∙ z.marks }

  pub ready-entered : (seen seen₁ : List ℕ) (c r : ℕ) → Ready s seen → Entered s.symbols c seen (Some r) seen₁ → Ready s seen₁
  ready-entered seen seen₁ c r z e = ready-after seen seen₁ c (Some r) z e

  inside-after : (seen seen₁ : List ℕ) (c r : ℕ) (o : Option ℕ) → Entered s.symbols c seen o seen₁ → o ≡ Some r
      → (c < length seen) × (unmet seen ≡ suc (unmet seen₁))
  inside-after seen seen₁ c r o (barred h) q = cc
  inside-after seen seen₁ c r o (entered k e v i) q = (i, unmet-set seen c i v)

  pub entered-fits : (seen seen₁ : List ℕ) (c r n k j : ℕ) → Ready s seen → Entered s.symbols c seen (Some r) seen₁
      → n ≡ k → (k ≡ width (under w).arities r) × (k ≤ arity_max) → j ≡ c → arity_max * j + n ≤ arity_max * cells_max
  entered-fits seen seen₁ c r n k j z e en f ej = omega (arith, z.marks, f.1, (inside-after seen seen₁ c r (Some r) e refl).0)

  pub entered-falls : (seen seen₁ : List ℕ) (c r t : ℕ) → Entered s.symbols c seen (Some r) seen₁ → 2 * unmet seen ≡ t
      → 2 * unmet seen₁ + 1 < t
  entered-falls seen seen₁ c r t e m = omega (arith, (inside-after seen seen₁ c r (Some r) e refl).1)

  pub row-falls : (all rest : List Side) (seen seen₁ : List ℕ) (t : ℕ) → Left w s all seen rest seen₁ → 2 * unmet seen + 1 ≡ t → 2 * unmet seen₁ < t
  row-falls all rest seen seen₁ t h m = omega (arith, h.falls)
