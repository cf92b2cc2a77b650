-- Why what is kept stays right when the word of a name is new, and the laws of the two that ask for a loop.
use Prim.Native.Nat.{ℕ, suc, ◌+◌, ◌-◌, ◌<◌, ◌≤◌, min}
use mathlib.Core.Path.{◌≡◌, refl, ap, sym, ◌∙◌}
use mathlib.Core.Bool.{Bool, true, false, not}
use mir.Val.{bool_byte}
use mathlib.Core.List.{List, [], ◌∷◌}
use native.Mathlib.Decide.{ℕ_discrete}
use native.Mathlib.Omega.{arith}
use lib.Dec.{eqb}
use lib.ListN.{length, get_or, set}
use lib.Seq.{get_or-set_same, get_or-set_other}
use borrow.Author.Tests.{ne_eqb}
use Rattle.parts.specs.Limits.{names_max}
use Rattle.parts.specs.declared.NameNo.{NameNo}
use Rattle.parts.specs.declared.CellNo.{CellNo}
use Rattle.parts.specs.declared.Side.{Side}
use Rattle.parts.specs.declared.Side.TheVariants.{Name, Cell}
use Rattle.model.proofs.Beneath.Facts.{used-set}
use Rattle.model.specs.State.{St, used}
use Rattle.state.specs.Places.{stored}
use Rattle.state.specs.declared.Part.TheVariants.{Names}
use Rattle.kept.specs.Right.{Right}
use Rattle.kept.specs.declared.Kept.{Kept}
use Rattle.wiring.specs.Keeping.{Renamable, lowered, renamed, Came}
use Rattle.wiring.specs.Wiring.{bound, loop_here, Wirable}

few-used : (l : List ℕ) → used l ≤ length l
few-used [] = omega arith
few-used (v ∷ l) = omega (arith, few-used l)

used_at : (l : List ℕ) (x : ℕ) → min 1 (get_or l x 0) ≤ used l
used_at [] x = omega arith
used_at (v ∷ l) ℕ.zero = omega arith
used_at (v ∷ l) (ℕ.suc x) = omega (arith, used_at l x)

pub renamable : (s : St) (k : Kept) (x : NameNo) (old : ℕ) → Wirable s → Right k s → old ≡ get_or s.names x.0 0 → Renamable k old
renamable s k x old f r e =
    record {
      counted = omega (arith, used_at s.names x.0, r.names, ap (min 1) e);
      few = omega (arith, few-used s.names, f.size, r.names);
    }

-- what is below the new low number is in use
taken-below : (l : List ℕ) (low x v : ℕ) → x < length l → ((y : ℕ) → y < low → 0 < get_or l y 0)
    → (y : ℕ) → y < lowered low x v → 0 < get_or (set l x v) y 0
taken-below l low x ℕ.zero h f y b = rw (get_or-set_other l x y 0 0 (λ e. omega arith)) (f y (omega arith))
taken-below l low x (ℕ.suc v) h f y b = go (ℕ_discrete x y)
  where
    go : Dec (x ≡ y) → 0 < get_or (set l x (suc v)) y 0
    go (yes e) = rw (← e, get_or-set_same l x (suc v) 0 h) (omega arith)
    go (no e) = rw (get_or-set_other l x y (suc v) 0 (λ q. e (sym q))) (f y b)

low_fits : (low x v : ℕ) → x < names_max → low ≤ names_max → lowered low x v ≤ names_max
low_fits low x ℕ.zero h b = omega arith
low_fits low x (ℕ.suc v) h b = b

right_named : (s : St) (k : Kept) (x v : ℕ) → Wirable s → x < names_max → Right k s
    → Right (renamed k x (get_or s.names x 0) v) (stored Names x v s)
unfolding renamed stored
right_named s k x v f h r =
    let b : x < length s.names = omega (arith, f.size) in
    record {
      cells = r.cells;
      names = omega (arith, used-set s.names x v b, used_at s.names x, r.names);
      cells_taken = r.cells_taken;
      names_taken = taken-below s.names k.low_name x v b r.names_taken;
      cells_fit = r.cells_fit;
      names_fit = low_fits k.low_name x v h r.names_fit;
    }

pub set_way : (s s₁ : St) (k r : Kept) (x : NameNo) (old v : ℕ) → Wirable s → x.0 < names_max → Right k s → old ≡ get_or s.names x.0 0
    → s₁ ≡ stored Names x.0 v s → r ≡ renamed k x.0 old v → Came s₁ r (stored Names x.0 v s)
set_way s s₁ k r x old v f h g e p q =
    record { is = p; right = rw (p, q, e) (right_named s k x.0 v f h g) }

-- a loop asked for
module _ (s : St) where
  pub same_loop : (x y : NameNo) (t : Bool) → t ≡ eqb x.0 y.0 → t ≡ true → t ≡ loop_here (Name x) (Name y) s
  unfolding loop_here
  same_loop x y t e h = rw (sym e ∙ h) h

  pub joined-loop : (x y : NameNo) (w b : ℕ) (t : Bool) → t ≡ eqb x.0 y.0 → t ≡ false → w ≡ get_or s.names x.0 0 → b ≡ bound (Name y)
      → eqb w b ≡ loop_here (Name x) (Name y) s
  unfolding loop_here
  joined-loop x y w b t d h e f = rw (sym d ∙ h, ← e, ← f)

  module _ (l r : Side) where
    pub cell-no_loop : (x : NameNo) (c : CellNo) → l ≡ Name x → r ≡ Cell c → false ≡ loop_here l r s
    unfolding loop_here
    cell-no_loop x c e f = rw (e, f)

    pub left_no_loop : (c : CellNo) → l ≡ Cell c → false ≡ loop_here l r s
    unfolding loop_here
    left_no_loop c e = rw e

one_used : (w : ℕ) → bool_byte (not (eqb w 0)) ≡ min 1 w
one_used ℕ.zero = refl
one_used (ℕ.suc w) = rw (ne_eqb (suc w) 0 (λ e. omega arith)) (omega arith)

pub rename_way : (k : Kept) (x : NameNo) (old word gone come low : ℕ) → gone ≡ bool_byte (not (eqb old 0)) → come ≡ bool_byte (not (eqb word 0))
    → low ≡ lowered k.low_name x.0 word
    → ◌≡◌ {A = Kept} (record { cells = k.cells; names = k.names - gone + come; low_cell = k.low_cell; low_name = low }) (renamed k x.0 old word)
unfolding renamed
rename_way k x old word gone come low e f g = rw (e ∙ one_used old, f ∙ one_used word, g)
