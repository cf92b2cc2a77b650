-- Sums over the numbers below n.
use Rattle.std.specs.Prelude.{◌≡◌, refl, ◌⊎◌, ℕ, ◌+◌, ◌*◌, ◌≤◌, ◌<◌}
use Rattle.std.proofs.Common.{sym, ◌∙◌, ap, ap₂, inl, inr, arith}
use Rattle.std.proofs.Math.Decide.{dec_lt}
use Rattle.calculus.proofs.Beneath.Count.{δ_other, δ-cases}
use Rattle.calculus.specs.Terms.{δ}
use Rattle.model.specs.Walk.{below}

pub below_plus : (n : ℕ) (f g h : ℕ → ℕ) → ((i : ℕ) → h i ≡ f i + g i) → below n h ≡ below n f + below n g
below_plus ℕ.zero f g h e = omega arith
below_plus (ℕ.suc n) f g h e = omega (arith, below_plus n f g h e, e n)

pub below-zero : (n : ℕ) (f : ℕ → ℕ) → ((i : ℕ) → i < n → f i ≡ 0) → below n f ≡ 0
below-zero ℕ.zero f e = refl
below-zero (ℕ.suc n) f e = omega (arith, below-zero n f (λ i h. e i (omega arith)), e n (omega arith))

pub below_one : (n j : ℕ) (c : ℕ → ℕ) → ((i : ℕ) → n ≤ i → c i ≡ 0) → below n (λ i. δ i j * c i) ≡ c j
below_one ℕ.zero j c e = sym (e j (omega arith))
below_one (ℕ.suc n) j c e = go (δ-cases n j)
  where
    off : (i : ℕ) → ¬ (i ≡ j) → δ i j * c i ≡ 0
    off i n = ap (λ d. d * c i) (δ_other {x = i} {y = j} n) ∙ omega arith

    go : ((n ≡ j) × (δ n j ≡ 1)) ⊎ ((¬ (n ≡ j)) × (δ n j ≡ 0)) → below n (λ i. δ i j * c i) + δ n j * c n ≡ c j
    go (inl p) =
        omega (
          arith,
          below-zero n (λ i. δ i j * c i) (λ i h. off i (λ q. omega (arith, q, p.0))),
          ap (λ d. d * c n) p.1,
          ap c p.0,
        )
    go (inr p) = omega (arith, rest (dec_lt j n), ap (λ d. d * c n) p.1)
      where
        rest : Dec (j < n) → below n (λ i. δ i j * c i) ≡ c j
        rest (yes h) = inside n h
          where
            inside : (k : ℕ) → j < k → below k (λ i. δ i j * c i) ≡ c j
            inside ℕ.zero h = absurd (omega arith)
            inside (ℕ.suc k) h = by (δ-cases k j) (λ q. inside k q)
              where
                by : ((k ≡ j) × (δ k j ≡ 1)) ⊎ ((¬ (k ≡ j)) × (δ k j ≡ 0))
                    → (j < k → below k (λ i. δ i j * c i) ≡ c j) → below k (λ i. δ i j * c i) + δ k j * c k ≡ c j
                by (inl q) f =
                    omega (
                      arith,
                      below-zero k (λ i. δ i j * c i) (λ i o. off i (λ r. omega (arith, r, q.0))),
                      ap (λ d. d * c k) q.1,
                      ap c q.0,
                    )
                by (inr q) f = omega (arith, f (omega (arith, q.0)), ap (λ d. d * c k) q.1)
        rest (no h) =
            below-zero n (λ i. δ i j * c i) (λ i o. off i (λ r. omega (arith, r))) ∙ sym (e j (omega (arith, p.0)))

pub below_ext : (n : ℕ) (f g : ℕ → ℕ) → ((i : ℕ) → f i ≡ g i) → below n f ≡ below n g
below_ext ℕ.zero f g e = refl
below_ext (ℕ.suc n) f g e = ap₂ ◌+◌ (below_ext n f g e) (e n)

pub below-δ : (n j : ℕ) → j < n → below n (λ i. δ i j) ≡ 1
below-δ ℕ.zero j h = absurd (omega arith)
below-δ (ℕ.suc n) j h = go (δ-cases n j) (λ k. below-δ n j k)
  where
    go : ((n ≡ j) × (δ n j ≡ 1)) ⊎ ((¬ (n ≡ j)) × (δ n j ≡ 0)) → (j < n → below n (λ i. δ i j) ≡ 1)
        → below n (λ i. δ i j) + δ n j ≡ 1
    go (inl p) f = omega (arith, p.1, below-zero n (λ i. δ i j) (λ i k. δ_other {x = i} {y = j} (λ q. omega (arith, q, p.0))))
    go (inr p) f = omega (arith, p.1, f (omega (arith, p.0)))
