-- Why the cells in use are as many as the uses of the rules say.
use Rattle.std.specs.Prelude.{◌≡◌, List, [], ◌∷◌, ℕ, ◌+◌, ◌*◌, length}
use Rattle.std.proofs.Common.{sym, ap, arith}
use Rattle.std.proofs.Math.ListN.{get_or-eq_default}
use Rattle.calculus.specs.Calculus.{Label, Com, Int}
use Rattle.calculus.specs.Descent.{tally}
use Rattle.calculus.specs.Order.{uses}
use Rattle.calculus.specs.Terms.{δ}
use Rattle.model.specs.State.{St, used}
use Rattle.model.specs.Table.{no_entry, Table, entry}
use Rattle.model.specs.Sound.{Sound}
use Rattle.model.specs.SoundTable.{SoundTable}
use Rattle.model.specs.Walk.{Walk, below, made_in}
use Rattle.model.specs.Agree.{steps_in, uses_in}
use Rattle.model.proofs.Beneath.Moves.{right_cells}
use Rattle.model.proofs.Beneath.Sums.{below_ext, below-zero, below_plus, below_one}
use Rattle.model.proofs.Beneath.Walks.{walked, Walked}

by_rules : (T : Table) (M : List Label)
    → tally (right_cells T) M ≡ below (length T.rules) (λ i. uses i M * length (entry T i).cells)
by_rules T [] = sym (below-zero (length T.rules) (λ i. 0 * length (entry T i).cells) (λ i h. omega arith))
by_rules T (Com ∷ M) =
    omega (
      arith,
      by_rules T M,
      below_ext (length T.rules) (λ i. (0 + uses i M) * length (entry T i).cells) (λ i. uses i M * length (entry T i).cells) (λ i. ap (λ n. n * length (entry T i).cells) (let z : 0 + uses i M ≡ uses i M = omega arith in z)),
    )
by_rules T (Int j ∷ M) =
    omega (
      arith,
      by_rules T M,
      below_plus (length T.rules) (λ i. δ i j * length (entry T i).cells) (λ i. uses i M * length (entry T i).cells) (λ i. (δ i j + uses i M) * length (entry T i).cells) (λ i. omega arith),
      below_one (length T.rules) j (λ i. length (entry T i).cells) (λ i h. ap (λ e. length e.cells) (get_or-eq_default T.rules no_entry {n = i} h)),
    )

-- Twice each of some numbers.
below-twice : (n : ℕ) (f : ℕ → ℕ) → below n (λ i. f i * 2) ≡ 2 * below n f
below-twice ℕ.zero f = omega arith
below-twice (ℕ.suc n) f = omega (arith, below-twice n f)

pub cells_law : {T : Table} (h : SoundTable T) {st st' : St} (s : Sound T st) (w : Walk T st st')
    → used st'.symbols + below (length T.rules) (λ i. uses_in i w * 2)
    ≡ used st.symbols + below (length T.rules) (λ i. uses_in i w * length (entry T i).cells)
cells_law {T} h {st} {st'} s w = go (walked h s w)
  where
    go : Walked h s st' (steps_in w) (made_in w) (λ i. uses_in i w)
        → used st'.symbols + below (length T.rules) (λ i. uses_in i w * 2)
        ≡ used st.symbols + below (length T.rules) (λ i. uses_in i w * length (entry T i).cells)
    go k =
        omega (
          arith,
          k.cells,
          k.interactions_made,
          k.made_sum,
          below-twice (length T.rules) (λ i. uses_in i w),
          by_rules T k.labels,
          below_ext
              (length T.rules)
              (λ i. uses i k.labels * length (entry T i).cells)
              (λ i. uses_in i w * length (entry T i).cells)
              (λ i. ap (λ n. n * length (entry T i).cells) (k.rules_used i)),
        )
