-- The lowest free place of a list, and what becomes of the others when it is taken.
use Prim.Native.Nat.{ℕ, suc, ◌+◌, ◌<◌, ◌≤◌}
use mathlib.Core.Path.{◌≡◌, refl, ap, sym, ◌∙◌}
use mathlib.Core.Bool.{Bool, true, false}
use mathlib.Core.List.{List, [], ◌∷◌}
use native.Mathlib.Omega.{arith}
use lib.Dec.{ltb}
use lib.ListN.{length, get_or, set}
use lib.Seq.{get_or-set_same, get_or-set_other}
use borrow.Author.Tests.{ltb-true, ltb-false}
use Rattle.model.specs.State.{used, lowest}
use Rattle.model.proofs.Beneath.Facts.{used-set}
use Rattle.model.proofs.Beneath.Loops.{lowest-next}
use Rattle.state.specs.Moves.{taken, free_from}

-- Where nothing below `low` is free, the lowest free place from there on is the lowest of all.
pub first_free : (l : List ℕ) (low : ℕ) → low ≤ length l → ((j : ℕ) → j < low → 0 < get_or l j 0) → free_from low l ≡ taken l
unfolding taken free_from
first_free l ℕ.zero h b = omega arith
first_free [] (ℕ.suc low) h b = absurd (omega arith)
first_free (ℕ.zero ∷ l) (ℕ.suc low) h b = absurd (omega (arith, b 0 (omega arith)))
first_free (ℕ.suc v ∷ l) (ℕ.suc low) h b = omega (arith, first_free l low (omega arith) (λ j q. b (suc j) (omega arith)))

pub taken-inside : (l : List ℕ) → used l < length l → taken l < length l
unfolding taken
taken-inside [] h = absurd (omega arith)
taken-inside (ℕ.zero ∷ l) h = omega arith
taken-inside (ℕ.suc v ∷ l) h = omega (arith, taken-inside l (omega arith))

taken_free : (l : List ℕ) → get_or l (taken l) 0 ≡ 0
unfolding taken
taken_free [] = refl
taken_free (ℕ.zero ∷ l) = refl
taken_free (ℕ.suc v ∷ l) = taken_free l

taken-below : (l : List ℕ) (j : ℕ) → j < taken l → 0 < get_or l j 0
unfolding taken
taken-below [] j h = absurd (omega arith)
taken-below (ℕ.zero ∷ l) j h = absurd (omega arith)
taken-below (ℕ.suc v ∷ l) ℕ.zero h = omega arith
taken-below (ℕ.suc v ∷ l) (ℕ.suc j) h = taken-below l j (omega arith)

record Head (p : ℕ) (l : List ℕ) : Type 0 where
  pub rest : List ℕ
  pub is : l ≡ p ∷ rest

lowest-head : (l : List ℕ) (k m : ℕ) → taken l < length l → Head (k + taken l) (lowest k (suc m) l)
unfolding taken
lowest-head [] k m h = absurd (omega arith)
lowest-head (ℕ.zero ∷ l) k m h = record { rest = lowest (suc k) m l; is = ap (λ p. p ∷ lowest (suc k) m l) (omega arith) }
lowest-head (ℕ.suc v ∷ l) k m h =
    let r = lowest-head l (suc k) m (omega arith) in
    let e : suc k + taken l ≡ k + suc (taken l) = omega arith in
    record { rest = r.rest; is = r.is ∙ ap (λ p. p ∷ r.rest) e }

-- The lowest free place taken: it is the first of the lowest, and the others are the lowest then.
module _ (l : List ℕ) (v : ℕ) (h : used l < length l) (o : 0 < v) where
  pub lowest-taken : (m : ℕ) → lowest 0 (suc m) l ≡ taken l ∷ lowest 0 m (set l (taken l) v)
  lowest-taken m =
      let r = lowest-head l 0 m (taken-inside l h) in
      let e : 0 + taken l ≡ taken l = omega arith in
      let is : lowest 0 (suc m) l ≡ taken l ∷ r.rest = r.is ∙ ap (λ p. p ∷ r.rest) e in
      is ∙ ap (λ k. taken l ∷ k) (sym (lowest-next l m (taken l) r.rest v is o))

  pub used-taken : used (set l (taken l) v) ≡ suc (used l)
  used-taken = omega (arith, used-set l (taken l) v (taken-inside l h), taken_free l)

  pub below-taken : (j : ℕ) → j < taken l + 1 → 0 < get_or (set l (taken l) v) j 0
  below-taken j q = go (ltb j (taken l)) refl
    where
      go : (b : Bool) → ltb j (taken l) ≡ b → 0 < get_or (set l (taken l) v) j 0
      go true e =
          let k : j < taken l = ltb-true _ _ e in
          omega (arith, get_or-set_other l (taken l) j v 0 (λ z. omega arith), taken-below l j k)
      go false e =
          let k : j ≡ taken l = omega (arith, ltb-false) in
          rw k (omega (arith, get_or-set_same l (taken l) v 0 (taken-inside l h)))
