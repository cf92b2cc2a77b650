-- What the test of a rule of a symbol with itself finds.
use Rattle.std.specs.Prelude.{ℕ, ◌+◌, ◌*◌, ◌-◌, ◌/◌, ◌%◌, ◌<◌, ◌≤◌, ◌≡◌, ◌&&◌, ◌||◌, List, get_or, eqb}
use Rattle.std.proofs.Common.{sym, ap, ap₂, ◌∙◌, arith, lt-ltb, le-ltb}
use Rattle.std.proofs.Math.Nat.{div-add-mod', mod-lt}
use Rattle.parts.specs.Sides.{code, side}
use Rattle.parts.specs.Codes.{code-side}
use Rattle.texts.specs.Books.{Agent}
use Rattle.texts.specs.Coded.{second_from}
use Rattle.texts.specs.TableTest.{same_side, turned, turned_side, turns_to, is_two_sided}
use Rattle.table.specs.Lists.{tab}
use Rattle.table.specs.Layout.{sides_in, equation_of, cell_of, entry_of}
use Rattle.table.specs.Laws.Lists.{length-tab}
use Rattle.turning.specs.Turning.{all_turn}
use Rattle.table.specs.Laws.Sides.{even-side, odd-side, same_codes}

pub turned-cell : (x : ℕ) → x % 2 ≡ 1 → x ≡ code (turned_side (side x))
unfolding turned_side
turned-cell x h = sym (code-side x) ∙ (ap code (odd-side x h) ∙ sym (ap (λ s. code (turned_side s)) (odd-side x h)))

pub turned_left : (x : ℕ) → (x % 2 ≡ 1 → ⊥) → x < 2 * second_from → x + 2 * second_from ≡ code (turned_side (side x))
unfolding turned_side turned
turned_left x h q =
    sym (ap (λ s. code (turned_side s)) (even-side x h) ∙ rw (lt-ltb (x / 2) second_from (omega (arith, div-add-mod' x 2, q))) (omega (arith, div-add-mod' x 2, mod-lt x {m = 2} (omega arith), h)))

pub turned_right : (x : ℕ) → (x % 2 ≡ 1 → ⊥) → 2 * second_from ≤ x → x - 2 * second_from ≡ code (turned_side (side x))
unfolding turned_side turned
turned_right x h q =
    sym (ap (λ s. code (turned_side s)) (even-side x h) ∙ rw (le-ltb (x / 2) second_from (omega (arith, div-add-mod' x 2, mod-lt x {m = 2} (omega arith), q))) (omega (arith, div-add-mod' x 2, mod-lt x {m = 2} (omega arith), h)))

same_turned : (x y a : ℕ) → a ≡ code (turned_side (side x)) → same_side (turned_side (side x)) (side y) ≡ eqb a y
same_turned x y a e = same_codes (turned_side (side x)) (side y) ∙ ap₂ eqb (sym e) (code-side y)

module _ (r : List ℕ) (i j a b : ℕ) (ea : a ≡ code (turned_side (side (get_or r (sides_in + 2 * i) 0)))) (eb : b ≡ code (turned_side (side (get_or r (sides_in + (1 + 2 * i)) 0)))) where
  pub turns-are : turns_to (equation_of r i) (equation_of r j)
      ≡ (eqb a (get_or r (sides_in + 2 * j) 0) && eqb b (get_or r (sides_in + (1 + 2 * j)) 0) || eqb a (get_or r (sides_in + (1 + 2 * j)) 0) && eqb b (get_or r (sides_in + 2 * j) 0))
  unfolding turns_to
  turns-are =
      ap₂ ◌||◌
      (ap₂ ◌&&◌ (same_turned (get_or r (sides_in + 2 * i) 0) (get_or r (sides_in + 2 * j) 0) a ea) (same_turned (get_or r (sides_in + (1 + 2 * i)) 0) (get_or r (sides_in + (1 + 2 * j)) 0) b eb))
      (ap₂ ◌&&◌ (same_turned (get_or r (sides_in + 2 * i) 0) (get_or r (sides_in + (1 + 2 * j)) 0) a ea) (same_turned (get_or r (sides_in + (1 + 2 * i)) 0) (get_or r (sides_in + 2 * j) 0) b eb))

-- The whole test, number by number.
pub sided : (ags : List Agent) (r : List ℕ) → is_two_sided (entry_of ags r) ≡ (eqb (get_or r 3 0) 0 && eqb (get_or r 4 0) 0 && all_turn (tab (get_or r 2 0) (equation_of r)))
unfolding is_two_sided entry_of
sided ags r = rw (length-tab (get_or r 3 0) (cell_of ags r))
