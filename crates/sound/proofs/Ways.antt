-- One law for each way through the passes over the arrays of a state.
use Rattle.std.proofs.Common.{◌≡◌, refl, ap, sym, ◌∙◌, Bool, true, false, not, ◌&&◌, List, ℕ, suc, ◌*◌, ◌-◌, ◌<◌, ◌≤◌, arith, eqb, length, get_or, ne_eqb}
use Rattle.std.proofs.Math.ListN.{get_or-eq_default}
use Rattle.parts.specs.Limits.{arity_max, cells_max, names_max, waiting_max, stuck_max, face_max}
use Rattle.parts.specs.SegmentLaws.{seg-length}
use Rattle.parts.specs.Sides.{Side, name, cell, side}
use Rattle.parts.specs.Typed.{typed}
use Rattle.parts.specs.declared.Side as Typed
use Rattle.parts.specs.declared.Side.TheVariants.{Name, Cell}
use Rattle.parts.specs.declared.NameNo.{NameNo}
use Rattle.parts.specs.declared.CellNo.{CellNo}
use Rattle.model.specs.State.{St, bound, bond, to}
use Rattle.model.specs.Table.{Table}
use Rattle.model.specs.Sound.{width}
use Rattle.model.specs.Test.{every, zeroed, answered}
use Rattle.texts.specs.Coded.{arity_at}
use Rattle.table.specs.Layout.{agents_in}
use Rattle.state.specs.Layout.{names_at, view}
use Rattle.sound.specs.Clauses.{blanks, zero_past, answers}
use Rattle.sound.specs.Lent.{under, Usable}
use Rattle.sound.proofs.Tables.{under-arity}

-- the width of a cell
pub no_width : (w : List ℕ) (word : ℕ) → word ≡ 0 → (0 ≡ width (under w).arities word) × (0 ≤ arity_max)
no_width w word e = (rw e refl, omega arith)

pub width_way : (w : List ℕ) (word r : ℕ) → Usable w → ¬ (word ≡ 0) → r ≡ arity_at (agents_in w) (word - 1)
    → (r ≡ width (under w).arities word) × (r ≤ arity_max)
width_way w ℕ.zero r u z e = absurd (z refl)
width_way w (ℕ.suc word) r u z e =
    let q : suc word - 1 ≡ word = omega arith in
    let f : r ≡ arity_at (agents_in w) word = e ∙ ap (arity_at (agents_in w)) q in
    (f ∙ sym (under-arity w word), rw f (u.narrow word))

-- zeroed
pub zeroed-parts : (T : Table) (s : St)
    → zeroed T s
    ≡ (every cells_max (blanks T s)
    && (every (2 * waiting_max) (zero_past (2 * s.waiting.used) s.waiting.words)
    && (every (2 * stuck_max) (zero_past (2 * s.stuck.used) s.stuck.words) && every face_max (zero_past s.face.used s.face.words))))
unfolding zeroed blanks zero_past
zeroed-parts T s = refl

-- both_ways
pub joined_none : (w : List ℕ) (x y : ℕ) → names_max ≤ y
    → false ≡ (eqb (get_or (view w).names y 0) (bound (name x)) && not (eqb x y))
unfolding view
joined_none w x y h =
    let b : length (view w).names ≤ y = omega (arith, seg-length names_at names_max w) in
    let z : eqb 0 (bound (name x)) ≡ false = ne_eqb 0 (bound (name x)) (λ e. omega arith) in
    rw (get_or-eq_default (view w).names 0 b, z)

bond_of : (n : ℕ) → 2 ≤ n → bond n ≡ to (side (n - 2))
bond_of ℕ.zero h = absurd (omega arith)
bond_of (ℕ.suc ℕ.zero) h = absurd (omega arith)
bond_of (ℕ.suc (ℕ.suc n)) h = let q : suc (suc n) - 2 ≡ n = omega arith in rw q

pub answers_none : (s : St) (x word : ℕ) → word ≡ get_or s.names x 0 → word < 2 → true ≡ answers s x
unfolding answers
answers_none s x word e h = go word h ∙ ap (λ v. answered s.names x (bond v)) e
  where
    go : (n : ℕ) → n < 2 → true ≡ answered s.names x (bond n)
    go ℕ.zero h = refl
    go (ℕ.suc ℕ.zero) h = refl
    go (ℕ.suc (ℕ.suc n)) h = absurd (omega arith)

on_side : (l : List ℕ) (x : ℕ) (a : Side) (y : NameNo) → Name y ≡ typed a
    → answered l x (to a) ≡ (eqb (get_or l y.0 0) (bound (name x)) && not (eqb x y.0))
on_side l x (name z) y e = let q : y.0 ≡ z = cc in rw q
on_side l x (cell z) y e = absurd (let z : ◌≡◌ {A = ℕ} 0 1 = cc in omega arith)

on_cell : (l : List ℕ) (x : ℕ) (a : Side) (c : CellNo) → Cell c ≡ typed a → answered l x (to a) ≡ true
on_cell l x (name z) c e = absurd (let z : ◌≡◌ {A = ℕ} 0 1 = cc in omega arith)
on_cell l x (cell z) c e = refl

pub answers-name : (s : St) (x word : ℕ) (q : Typed.Side) (y : NameNo) (r : Bool) → word ≡ get_or s.names x 0 → 2 ≤ word → q ≡ typed (side (word - 2))
    → q ≡ Name y → r ≡ (eqb (get_or s.names y.0 0) (bound (name x)) && not (eqb x y.0)) → r ≡ answers s x
unfolding answers
answers-name s x word q y r e h d m f =
    f
    ∙ sym (on_side s.names x (side (word - 2)) y (sym m ∙ d))
    ∙ ap (answered s.names x) (sym (bond_of word h) ∙ ap bond e)

pub answers-cell : (s : St) (x word : ℕ) (q : Typed.Side) (c : CellNo) → word ≡ get_or s.names x 0 → 2 ≤ word → q ≡ typed (side (word - 2))
    → q ≡ Cell c → true ≡ answers s x
unfolding answers
answers-cell s x word q c e h d m =
    sym (on_cell s.names x (side (word - 2)) c (sym m ∙ d)) ∙ ap (answered s.names x) (sym (bond_of word h) ∙ ap bond e)
