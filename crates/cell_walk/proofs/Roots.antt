-- One law for each way through the walk from all that cells are reached from: lists of equations, ties and joins, all roots.
use Rattle.std.proofs.Common.{◌≡◌, refl, ap, sym, ◌∙◌, subst, Bool, true, false, List, [], ◌∷◌, ◌++◌, append_assoc, map, ℕ, suc, ◌+◌, ◌*◌, ◌-◌, ◌<◌, ◌≤◌, arith, add-one, ltb, length, get_or, take, drop, drop-cons}
use Rattle.std.proofs.Math.Decide.{dec_lt}
use Rattle.parts.specs.Limits.{names_max}
use Rattle.parts.specs.Sides.{Side, name, cell, Pair, ◌:=◌, side}
use Rattle.parts.specs.Typed.{typed}
use Rattle.parts.specs.declared.Side as Typed
use Rattle.parts.specs.declared.Side.TheVariants.{Name, Cell}
use Rattle.parts.specs.declared.NameNo.{NameNo}
use Rattle.parts.specs.declared.CellNo.{CellNo}
use Rattle.model.specs.State.{St, unpack}
use Rattle.model.specs.Reading.{link, bond_at, bonds}
use Rattle.model.specs.Table as Model
use Rattle.model.specs.Sound.{sides, mem_of}
use Rattle.model.specs.Test.{sides_of}
use Rattle.sound.specs.Lent.{under}
use Rattle.cell_walk.specs.Walks.{Steps, Walked, row, Ready, all_roots}
use Rattle.cell_walk.proofs.Steps.{steps_none, steps_then, steps-stop, Cut, Begins, begins}
use Rattle.cell_walk.proofs.Cells.{side-name, side-cell, name-inside, name-steps, row-map}

-- The equations of a list, the last first.
pub pile-cut : (l : List ℕ) (n : ℕ) → 0 < n → Cut (sides_of (unpack n l)) (row l (2 * (n - 1)) 2) (sides_of (unpack (n - 1) l))
unfolding row
pile-cut l ℕ.zero h = absurd (omega arith)
pile-cut l (ℕ.suc m) h =
    let q : m ≡ suc m - 1 = omega arith in
    let p : 1 + 2 * m ≡ suc (2 * m) = omega arith in
    record {
      parts =
          ap (λ i. side (get_or l (2 * m) 0) ∷ side (get_or l i 0) ∷ sides_of (unpack m l)) p
          ∙ ap (λ k. side (get_or l (2 * k) 0) ∷ side (get_or l (suc (2 * k)) 0) ∷ sides_of (unpack k l)) q;
    }

pub pile-begins : (l : List ℕ) (n : ℕ) → 0 < n → Begins (sides_of (unpack n l)) (row l (2 * (n - 1)) 2)
pile-begins l n h = begins (pile-cut l n h)

pub pile_gone : (l : List ℕ) (n : ℕ) → n ≤ 0 → sides_of (unpack n l) ≡ []
pile_gone l ℕ.zero h = refl
pile_gone l (ℕ.suc n) h = absurd (omega arith)

-- One tie or join: what equation it is, if any, by the word of its name.
bare_at : (x v : ℕ) → v < 2 → bond_at x v ≡ []
bare_at x ℕ.zero h = refl
bare_at x (ℕ.suc ℕ.zero) h = refl
bare_at x (ℕ.suc (ℕ.suc n)) h = absurd (omega arith)

bound_at : (x v : ℕ) → 2 ≤ v → bond_at x v ≡ link x (side (v - 2))
bound_at x ℕ.zero h = absurd (omega arith)
bound_at x (ℕ.suc ℕ.zero) h = absurd (omega arith)
bound_at x (ℕ.suc (ℕ.suc n)) h = let q : n ≡ suc (suc n) - 2 = omega arith in ap (λ k. link x (side k)) q

link-low : (x y : ℕ) → y ≤ x → link x (name y) ≡ []
link-low x y h = go (dec_lt x y)
  where
    go : (d : Dec (x < y)) → ◌≡◌ {A = List Pair} (elim d [ yes h ↦ (name x := name y) ∷ [] | no h ↦ [] ]) []
    go (yes p) = absurd (omega arith)
    go (no p) = refl

link-high : (x y : ℕ) → x < y → link x (name y) ≡ (name x := name y) ∷ []
link-high x y h = go (dec_lt x y)
  where
    go : (d : Dec (x < y)) → elim d [ yes h ↦ (name x := name y) ∷ [] | no h ↦ [] ] ≡ (name x := name y) ∷ []
    go (yes p) = refl
    go (no p) = absurd (p h)

module _ (mem : ℕ → Model.Cell) (ss l seen : List ℕ) (x word : ℕ) (e : word ≡ get_or l x 0) where
  by_pair : {seen₁ : List ℕ} {ok : Bool} (p : List Pair) → bond_at x word ≡ p → Steps mem ss (sides_of p) seen ok seen₁
      → Steps mem ss (sides_of (bond_at x (get_or l x 0))) seen ok seen₁
  by_pair {seen₁} {ok} p q f = subst (λ p. Steps mem ss (sides_of p) seen ok seen₁) (sym q ∙ ap (bond_at x) e) f

  pub bond_none : word < 2 → Steps mem ss (sides_of (bond_at x (get_or l x 0))) seen true seen
  bond_none h = by_pair [] (bare_at x word h) (steps_none mem ss seen)

  module _ (q : Typed.Side) (h : 2 ≤ word) (d : q ≡ typed (side (word - 2))) where
    pub bond-low : (y : NameNo) (j : ℕ) → q ≡ Name y → j ≡ y.0 → j ≤ x → Steps mem ss (sides_of (bond_at x (get_or l x 0))) seen true seen
    bond-low y j m i k =
        by_pair [] (bound_at x word h ∙ ap (link x) (sym (side-name (side (word - 2)) y (sym m ∙ d))) ∙ link-low x y.0 (omega arith)) (steps_none mem ss seen)

    pub bond-high : (y : NameNo) (j : ℕ) → q ≡ Name y → j ≡ y.0 → x < names_max → x < j
        → Steps mem ss (sides_of (bond_at x (get_or l x 0))) seen (ltb j names_max) seen
    bond-high y j m i b k =
        by_pair ((name x := name j) ∷ [])
        (bound_at x word h ∙ ap (link x) (sym (side-name (side (word - 2)) y (sym m ∙ d)) ∙ ap name (sym i)) ∙ link-high x j k)
        (steps_then mem ss {l = name x ∷ []} {m = name j ∷ []} (name-inside mem ss seen x b) (name-steps mem ss seen j))

    pub bond_tied : (seen₁ : List ℕ) (c : CellNo) (ok : Bool) → q ≡ Cell c → x < names_max → Steps mem ss (side (word - 2) ∷ []) seen ok seen₁
        → Steps mem ss (sides_of (bond_at x (get_or l x 0))) seen ok seen₁
    bond_tied seen₁ c ok m b f =
        let z = sym (side-cell (side (word - 2)) c (sym m ∙ d)) in
        by_pair ((name x := cell c.0) ∷ []) (bound_at x word h ∙ ap (link x) z)
        (steps_then mem ss {l = name x ∷ []} {m = cell c.0 ∷ []} (name-inside mem ss seen x b)
        (subst (λ a. Steps mem ss (a ∷ []) seen ok seen₁) z f))

-- All ties and joins, and all roots.
sides_plus : (l m : List Pair) → sides_of (l ++ m) ≡ sides_of l ++ sides_of m
sides_plus [] m = refl
sides_plus ((a := b) ∷ l) m = ap (λ k. a ∷ b ∷ k) (sides_plus l m)

module _ (w : List ℕ) (s : St) (seen : List ℕ) (z : Ready s seen) where
  pub bonds-cut : (x : ℕ) → x < names_max
      → Cut (sides_of (bonds x (drop x s.names))) (sides_of (bond_at x (get_or s.names x 0))) (sides_of (bonds (x + 1) (drop (x + 1) s.names)))
  bonds-cut x h =
      record {
        parts =
            ap (λ m. sides_of (bonds x m)) (drop-cons s.names x 0 (omega (arith, z.sizes.names)))
            ∙ sides_plus (bond_at x (get_or s.names x 0)) (bonds (suc x) (drop (suc x) s.names))
            ∙ ap (λ k. sides_of (bond_at x (get_or s.names x 0)) ++ sides_of (bonds k (drop k s.names))) (sym (add-one x));
      }

  pub bonds_begin : (x : ℕ) → x < names_max → Begins (sides_of (bonds x (drop x s.names))) (sides_of (bond_at x (get_or s.names x 0)))
  bonds_begin x h = begins (bonds-cut x h)

  pub bonds_gone : (x : ℕ) → names_max ≤ x → sides_of (bonds x (drop x s.names)) ≡ []
  bonds_gone x h = ap (λ m. sides_of (bonds x m)) (gone s.names x (omega (arith, z.sizes.names)))
    where
      gone : (l : List ℕ) (n : ℕ) → length l ≤ n → drop n l ≡ []
      gone [] ℕ.zero h = refl
      gone [] (ℕ.suc n) h = refl
      gone (v ∷ l) ℕ.zero h = absurd (omega arith)
      gone (v ∷ l) (ℕ.suc n) h = gone l n (omega arith)

-- Some sides, and others after them if all was well with the first.
module _ (w : List ℕ) (s : St) {l : List Side} {seen seen₁ : List ℕ} {t : Bool} (m : List Side) (f : Walked w s l seen t seen₁) where
  pub more_walked : {seen₂ : List ℕ} {u : Bool} → t ≡ true → Walked w s m seen₁ u seen₂ → Walked w s (l ++ m) seen u seen₂
  more_walked {seen₂} {u} e g = steps_then (mem_of (under w) s) s.symbols (rw e at f) g

  pub no_more : t ≡ false → Walked w s (l ++ m) seen t seen₁
  no_more e = rw e (steps-stop (mem_of (under w) s) s.symbols m (rw e at f))

pub roots_walked : (w : List ℕ) (s : St) {seen seen₁ : List ℕ} {f a k : ℕ} {ok : Bool} → Ready s seen
    → f ≡ s.face.used → a ≡ s.waiting.used → k ≡ s.stuck.used
    → Walked w s (((row s.face.words 0 f ++ sides_of (unpack a s.waiting.words)) ++ sides_of (bonds 0 s.names)) ++ sides_of (unpack k s.stuck.words)) seen ok seen₁
    → Walked w s (all_roots s) seen ok seen₁
unfolding all_roots
roots_walked w s {seen} {seen₁} {f} {a} {k} {ok} z ef ea ek g = subst (λ l. Walked w s l seen ok seen₁) e g
  where
    e : ((row s.face.words 0 f ++ sides_of (unpack a s.waiting.words)) ++ sides_of (bonds 0 s.names)) ++ sides_of (unpack k s.stuck.words) ≡ all_roots s
    e =
        let p : row s.face.words 0 f ≡ sides s.face =
        row-map s.face.words 0 f (omega (arith, z.sizes.face, z.sizes.faces)) ∙ ap (λ n. map side (take n s.face.words)) ef in
        rw (p, ea, ek) (simp (append_assoc, sides_plus))
