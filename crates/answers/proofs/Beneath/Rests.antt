-- The sides that an array holds from some place on, taken one by one.
use Rattle.std.specs.Prelude.{◌≡◌, refl, List, [], ◌∷◌, map, ℕ, zero, suc, ◌≤◌, ◌<◌, get_or, length, take, drop}
use Rattle.std.proofs.Common.{arith}
use Rattle.parts.specs.Sides.{side}

pub first_of : (w : ℕ) (l : List ℕ) (k : ℕ) → k < w → k < length l
    → drop k (map side (take w l)) ≡ side (get_or l k 0) ∷ drop (suc k) (map side (take w l))
first_of zero l k h b = absurd (omega (arith, h))
first_of (suc w) [] k h b = absurd (omega (arith, b))
first_of (suc w) (v ∷ l) zero h b = refl
first_of (suc w) (v ∷ l) (suc k) h b = first_of w l k (omega (arith, h)) (omega (arith, b))

pub none_of : (w : ℕ) (l : List ℕ) (k : ℕ) → w ≤ k → drop k (map side (take w l)) ≡ []
none_of zero l zero h = refl
none_of zero l (suc k) h = refl
none_of (suc w) [] zero h = refl
none_of (suc w) [] (suc k) h = refl
none_of (suc w) (v ∷ l) zero h = absurd (omega (arith, h))
none_of (suc w) (v ∷ l) (suc k) h = none_of w l k (omega (arith, h))
