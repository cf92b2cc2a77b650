-- Why `lowest` gives the lowest free numbers.
use Rattle.std.specs.Prelude.{◌≡◌, List, [], ◌∷◌, ℕ, suc, ◌+◌, ◌≤◌, ◌<◌, length, get_or}
use Rattle.std.proofs.Common.{ap, subst, arith}
use Rattle.std.proofs.Math.Decide.{dec_lt}
use Rattle.calculus.proofs.Beneath.Count.{δ_same}
use Rattle.calculus.specs.Terms.{δ, count}
use Rattle.model.specs.State.{lowest}
use Rattle.model.proofs.Beneath.Store.{lowest-free, count-get_or}

pub all_free : (n : ℕ) (l : List ℕ) (j : ℕ) → j < length (lowest 0 n l)
    → (get_or (lowest 0 n l) j 0 < length l) × (get_or l (get_or (lowest 0 n l) j 0) 0 ≡ 0)
all_free n l j h =
    let m = count-get_or (lowest 0 n l) j h in
    let f = lowest-free n l in
    (inside (dec_lt (get_or (lowest 0 n l) j 0) (length l)) m (f.inside (get_or (lowest 0 n l) j 0)), omega (arith, f.once (get_or (lowest 0 n l) j 0), m))
  where
    inside : {c k e : ℕ} → Dec (c < k) → 0 < e → (k ≤ c → e ≡ 0) → c < k
    inside (yes p) o f = p
    inside (no p) o f = absurd (omega (arith, f (omega arith)))

above : (k n : ℕ) (l : List ℕ) (j : ℕ) → j < length (lowest k n l) → k ≤ get_or (lowest k n l) j 0
above k ℕ.zero l j h = absurd (omega arith)
above k (ℕ.suc n) [] j h = absurd (omega arith)
above k (ℕ.suc n) (ℕ.zero ∷ l) ℕ.zero h = omega arith
above k (ℕ.suc n) (ℕ.zero ∷ l) (ℕ.suc j) h = omega (arith, above (suc k) n l j (omega arith))
above k (ℕ.suc n) (ℕ.suc v ∷ l) j h = omega (arith, above (suc k) (suc n) l j h)

pub rises : (k n : ℕ) (l : List ℕ) (i j : ℕ) → i < j → j < length (lowest k n l)
    → get_or (lowest k n l) i 0 < get_or (lowest k n l) j 0
rises k ℕ.zero l i j o h = absurd (omega arith)
rises k (ℕ.suc n) [] i j o h = absurd (omega arith)
rises k (ℕ.suc n) (ℕ.zero ∷ l) i ℕ.zero o h = absurd (omega arith)
rises k (ℕ.suc n) (ℕ.zero ∷ l) ℕ.zero (ℕ.suc j) o h = omega (arith, above (suc k) n l j (omega arith))
rises k (ℕ.suc n) (ℕ.zero ∷ l) (ℕ.suc i) (ℕ.suc j) o h = rises (suc k) n l i j (omega arith) (omega arith)
rises k (ℕ.suc n) (ℕ.suc v ∷ l) i j o h = rises (suc k) (suc n) l i j o h

first : (k n : ℕ) (l : List ℕ) (i j : ℕ) → j < length (lowest k n l) → get_or l i 0 ≡ 0
    → k + i < get_or (lowest k n l) j 0 → 0 < count (k + i) (lowest k n l)
first k ℕ.zero l i j h e o = absurd (omega arith)
first k (ℕ.suc n) [] i j h e o = absurd (omega arith)
first k (ℕ.suc n) (ℕ.zero ∷ l) ℕ.zero j h e o = omega (arith, δ_same (k + 0), ap (δ (k + 0)) (let q : k + 0 ≡ k = omega arith in q))
first k (ℕ.suc n) (ℕ.zero ∷ l) (ℕ.suc i) ℕ.zero h e o = absurd (omega arith)
first k (ℕ.suc n) (ℕ.zero ∷ l) (ℕ.suc i) (ℕ.suc j) h e o =
    omega (arith, first (suc k) n l i j (omega arith) e (omega arith), ap (λ p. count p (lowest (suc k) n l)) (let q : suc k + i ≡ k + suc i = omega arith in q))
first k (ℕ.suc n) (ℕ.suc v ∷ l) ℕ.zero j h e o = absurd (omega arith)
first k (ℕ.suc n) (ℕ.suc v ∷ l) (ℕ.suc i) j h e o =
    omega (arith, first (suc k) (suc n) l i j h e (omega arith), ap (λ p. count p (lowest (suc k) (suc n) l)) (let q : suc k + i ≡ k + suc i = omega arith in q))

pub none_passed : (n : ℕ) (l : List ℕ) (i j : ℕ) → j < length (lowest 0 n l) → get_or l i 0 ≡ 0
    → i < get_or (lowest 0 n l) j 0 → 0 < count i (lowest 0 n l)
none_passed n l i j h e o =
    let q : 0 + i ≡ i = omega arith in
    subst (λ p. 0 < count p (lowest 0 n l)) q (first 0 n l i j h e (omega arith))
