-- Numbers in a row: how many, which is where, how often each stands, and that they are free places of nothing but zeros.
use Rattle.std.specs.Prelude.{ℕ, zero, suc, ◌+◌, ◌≤◌, ◌<◌, min, ◌≡◌, refl, ◌∷◌, ◌++◌, ◌⊎◌, length, get_or}
use Rattle.std.proofs.Common.{ap, ◌∙◌, inl, inr, arith}
use Rattle.std.proofs.Math.Decide.{dec_lt}
use Rattle.calculus.specs.Terms.{δ, count}
use Rattle.calculus.proofs.Beneath.Count.{δ-cases}
use Rattle.model.specs.State.{from, zeros}
use Rattle.model.proofs.Beneath.Facts.{zeros-length, zero_at}
use Rattle.model.proofs.Beneath.Store.{Free}

pub from-length : (j n : ℕ) → length (from j n) ≡ n
from-length j ℕ.zero = refl
from-length j (ℕ.suc n) = ap suc (from-length (suc j) n)

pub from_at : (j n k : ℕ) → k < n → get_or (from j n) k 0 ≡ j + k
from_at j ℕ.zero k h = absurd (omega arith)
from_at j (ℕ.suc n) ℕ.zero h = omega arith
from_at j (ℕ.suc n) (ℕ.suc k) h = from_at (suc j) n k (omega arith) ∙ (let e : suc j + k ≡ j + suc k = omega arith in e)

pub from-append : (a b m : ℕ) → from m a ++ from (m + a) b ≡ from m (a + b)
from-append zero b m = let y : m + 0 ≡ m = omega arith in let z : 0 + b ≡ b = omega arith in rw (y, z)
from-append (suc a) b m =
    let y : m + suc a ≡ suc m + a = omega arith in
    let z : suc a + b ≡ suc (a + b) = omega arith in
    rw (y, z) (ap (λ l. m ∷ l) (from-append a b (suc m)))

pub from_out : (n k x : ℕ) → (k ≤ x → k + n ≤ x) → count x (from k n) ≡ 0
from_out zero k x h = refl
from_out (suc n) k x h = go (δ-cases x k) (from_out n (suc k) x (λ l. let z = h (omega (arith, l)) in omega (arith, z)))
  where
    go : ((x ≡ k) × (δ x k ≡ 1)) ⊎ ((¬ (x ≡ k)) × (δ x k ≡ 0)) → count x (from (suc k) n) ≡ 0 → δ x k + count x (from (suc k) n) ≡ 0
    go (inl e) ih = let z = e.0 in let y = h (omega (arith, z)) in absurd (omega (arith, y, z))
    go (inr e) ih = let d = e.1 in omega (arith, d, ih)

pub from_in : (n k x : ℕ) → k ≤ x → x < k + n → count x (from k n) ≡ 1
from_in zero k x h l = absurd (omega (arith, h, l))
from_in (suc n) k x h l = go (δ-cases x k) (from_in n (suc k) x) (from_out n (suc k) x)
  where
    go : ((x ≡ k) × (δ x k ≡ 1)) ⊎ ((¬ (x ≡ k)) × (δ x k ≡ 0)) → (suc k ≤ x → x < suc k + n → count x (from (suc k) n) ≡ 1)
        → ((suc k ≤ x → suc k + n ≤ x) → count x (from (suc k) n) ≡ 0) → δ x k + count x (from (suc k) n) ≡ 1
    go (inl e) ih out = let z = e.0 in let d = e.1 in let o = out (λ m. absurd (omega (arith, m, z))) in omega (arith, d, o)
    go (inr e) ih out = let z = e.0 in let d = e.1 in let i = ih (omega (arith, h, z)) (omega (arith, l)) in omega (arith, d, i)

pub from-count : (k n x : ℕ) → 0 < count x (from k n) → (k ≤ x) × (x < k + n)
from-count k n x h = go (dec_lt x k) (dec_lt x (k + n))
  where
    go : Dec (x < k) → Dec (x < k + n) → (k ≤ x) × (x < k + n)
    go (yes l) d = absurd (let o = from_out n k x (λ m. absurd (omega (arith, l, m))) in omega (arith, h, o))
    go (no m) (yes l) = (omega (arith, m), l)
    go (no m) (no l) = absurd (let o = from_out n k x (λ i. omega (arith, l)) in omega (arith, h, o))

pub from-free : (k n : ℕ) → k ≤ n → Free (from 0 k) (zeros n)
from-free k n h = record { once = λ c. few c (dec_lt c k); inside = λ c o. from_out k 0 c (λ i. omega (arith, o, h, zeros-length n)) }
  where
    few : (c : ℕ) → Dec (c < k) → count c (from 0 k) + min 1 (get_or (zeros n) c 0) ≤ 1
    few c (yes l) = omega (arith, from_in k 0 c (omega arith) (omega (arith, l)), zero_at n c)
    few c (no l) = omega (arith, from_out k 0 c (λ i. omega (arith, l)), zero_at n c)
