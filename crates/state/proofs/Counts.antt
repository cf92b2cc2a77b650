-- The empty state, and the count of what is in use.
use Prim.Native.Nat.{ℕ, suc, ◌+◌, ◌*◌, ◌≤◌, min}
use mathlib.Core.Path.{◌≡◌, refl, ap, sym, ◌∙◌}
use mathlib.Core.Bool.{cond, not}
use mathlib.Core.List.{List, ◌∷◌}
use native.Mathlib.Omega.{arith}
use lib.Dec.{eqb}
use borrow.Author.Tests.{ne_eqb}
use lib.ListN.{get_or, take}
use Rattle.std.specs.List.{count_by}
use Rattle.std.proofs.lemmas.List.Recursion.{is_count_by}
use Rattle.parts.specs.Limits.{arity_max, cells_max, names_max, waiting_max, stuck_max, face_max}
use Rattle.parts.specs.Segments.{seg}
use Rattle.model.specs.State.{zeros, empty, used}
use Rattle.state.specs.Layout.{waits_at, stucks_at, faces_at, loops_at, symbols_at, arguments_at, names_at, waiting_at, stuck_at, face_at, state_size, view}

zero_at : (n i : ℕ) → get_or (zeros n) i 0 ≡ 0
zero_at ℕ.zero i = refl
zero_at (ℕ.suc n) ℕ.zero = refl
zero_at (ℕ.suc n) (ℕ.suc i) = zero_at n i

take-zeros : (k n : ℕ) → k ≤ n → take k (zeros n) ≡ zeros k
take-zeros ℕ.zero n h = refl
take-zeros (ℕ.suc k) ℕ.zero h = absurd (omega arith)
take-zeros (ℕ.suc k) (ℕ.suc n) h = ap (λ l. 0 ∷ l) (take-zeros k n (omega arith))

seg-zeros : (at k n : ℕ) → at + k ≤ n → seg at k (zeros n) ≡ zeros k
unfolding seg
seg-zeros ℕ.zero k n h = take-zeros k n (omega arith)
seg-zeros (ℕ.suc at) k ℕ.zero h = absurd (omega arith)
seg-zeros (ℕ.suc at) k (ℕ.suc n) h = seg-zeros at k n (omega arith)

pub view-zeros : (n : ℕ) → state_size ≤ n → view (zeros n) ≡ empty
unfolding view
view-zeros n h =
    rw (
      seg-zeros symbols_at cells_max n (omega arith),
      seg-zeros arguments_at (arity_max * cells_max) n (omega arith),
      seg-zeros names_at names_max n (omega arith),
      seg-zeros waiting_at (2 * waiting_max) n (omega arith),
      seg-zeros stuck_at (2 * stuck_max) n (omega arith),
      seg-zeros face_at face_max n (omega arith),
      zero_at n waits_at,
      zero_at n stucks_at,
      zero_at n faces_at,
      zero_at n loops_at,
      zero_at n (loops_at + 1),
    )

-- A word that is not 0 is in use.
used_count : (l : List ℕ) → used l ≡ count_by (λ v. not (eqb v 0)) l
used_count l = is_count_by used (λ v. not (eqb v 0)) refl step l
  where
    step : (v : ℕ) (l : List ℕ) → min 1 v + used l ≡ cond (not (eqb v 0)) (1 + used l) (used l)
    step ℕ.zero l = omega arith
    step (ℕ.suc v) l = rw (ne_eqb (suc v) 0 (λ e. omega arith)) (omega arith)

pub count_way : (l ws : List ℕ) (n : ℕ) → ws ≡ l → n ≡ count_by (λ v. not (eqb v 0)) ws → n ≡ used l
count_way l ws n e f = f ∙ ap (count_by (λ v. not (eqb v 0))) e ∙ sym (used_count l)
