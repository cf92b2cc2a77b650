-- Fresh names: any two choices of new names are carried to each other by a renaming that leaves the old names.
use Rattle.std.specs.Prelude.{◌≡◌, refl, List, [], ◌∷◌, map, ◌⊎◌, ℕ, suc, ◌+◌, ◌≤◌, ◌<◌}
use Rattle.std.proofs.Common.{sym, ◌∙◌, ap, inl, inr, arith}
use Rattle.calculus.specs.Terms.{δ, sum, count}
use Rattle.calculus.specs.Calculus.{Choice}
use Rattle.calculus.specs.Nets.{Renaming}
use Rattle.calculus.proofs.Beneath.Count.{Delta, δ_same, δ_other, δ-cases}
use Rattle.calculus.proofs.Beneath.Rename.{identity, after, injective, exchange, exchanging}
use Rattle.calculus.proofs.Beneath.Rename.{exchange_left, exchange_other}

pub record Carried (zs : List ℕ) (old : List ℕ) (ν μ : ℕ → ℕ) : Type 0 where
  pub by : Renaming
  pub moved : (z : ℕ) → 0 < count z zs → by.to (ν z) ≡ μ z
  pub fixed : (x : ℕ) → 0 < count x old → by.to x ≡ x

tail-choice : {z : ℕ} {zs old : List ℕ} {ν : ℕ → ℕ} → Choice (z ∷ zs) old ν → Choice zs old ν
tail-choice h =
    record {
      fresh = λ y k. h.fresh y (omega arith);
      apart = λ x y j k e. h.apart x y (omega arith) (omega arith) e;
    }

pub carry : (zs : List ℕ) {old : List ℕ} {ν μ : ℕ → ℕ} → Choice zs old ν → Choice zs old μ → Carried zs old ν μ
carry [] h k = record { by = identity; moved = λ z p. absurd (omega arith); fixed = λ x p. refl }
carry (z ∷ zs) {old} {ν} {μ} h k = go (carry zs (tail-choice h) (tail-choice k))
  where
    top : 0 < count z (z ∷ zs)
    top = omega (arith, δ_same z)

    go : Carried zs old ν μ → Carried (z ∷ zs) old ν μ
    go c = record { by = after c.by (exchanging a b); moved = moved; fixed = fixed }
      where
        a : ℕ
        a = c.by.to (ν z)

        b : ℕ
        b = μ z

        fixed : (x : ℕ) → 0 < count x old → exchange a b (c.by.to x) ≡ x
        fixed x p =
            rw
            (c.fixed x p)
            (exchange_other
            (λ e.
            let q : x ≡ ν z = injective c.by (c.fixed x p ∙ e) in
            omega (arith, h.fresh z top, ap (λ y. count y old) q))
            (λ e. omega (arith, k.fresh z top, ap (λ y. count y old) e)))

        moved : (y : ℕ) → 0 < count y (z ∷ zs) → exchange a b (c.by.to (ν y)) ≡ μ y
        moved y p = elim (δ-cases y z) [
          | inl e ↦ rw e.0 (exchange_left a b)
          | inr e ↦ let q : 0 < count y zs = omega (arith, e.1) in
              rw
              (c.moved y q)
              (exchange_other
              (λ f. e.0 (h.apart y z p top (injective c.by (c.moved y q ∙ f))))
              (λ f. e.0 (k.apart y z p top f)))
        ]

-- A number above all of a list, so that it and those after it are new.
abbrev pub above : List ℕ → ℕ
above [] = 0
above (x ∷ l) = suc x + above l

pub count-above : (l : List ℕ) (x : ℕ) → above l ≤ x → count x l ≡ 0
count-above [] x h = refl
count-above (y ∷ l) x h = omega (arith, count-above l x (omega arith), δ_other {x = x} {y = y} (λ e. omega arith))

pub below-above : (name : ℕ → ℕ) (zs : List ℕ) (z : ℕ) → 0 < count z zs → name z < above (map name zs)
below-above name [] z k = absurd (omega arith)
below-above name (y ∷ zs) z k = elim (δ-cases z y) [
  | inl e ↦ omega (arith, ap name e.0)
  | inr e ↦ omega (arith, below-above name zs z (omega (arith, e.1)))
]

-- A name that is counted was chosen.
pub record Found (zs : List ℕ) (name : ℕ → ℕ) (y : ℕ) : Type 0 where
  pub z : ℕ
  pub among : 0 < count z zs
  pub is : name z ≡ y

pub find : (zs : List ℕ) (name : ℕ → ℕ) (y : ℕ) → 0 < sum (λ z. δ y (name z)) zs → Found zs name y
find [] name y h = absurd (omega arith)
find (z ∷ zs) name y h = elim (δ-cases y (name z)) [
  | inl e ↦ record { z = z; among = omega (arith, δ_same z); is = sym e.0 }
  | inr e ↦ let k = find zs name y (omega (arith, e.1)) in
      record { z = k.z; among = omega (arith, k.among); is = k.is }
]

-- A name is chosen at most once, and then it is new.
pub chosen-once : (zs : List ℕ) {old : List ℕ} {name : ℕ → ℕ} → ((x : ℕ) → count x zs ≤ 1) → Choice zs old name
    → (y : ℕ) → (sum (λ z. δ y (name z)) zs ≡ 0) ⊎ ((sum (λ z. δ y (name z)) zs ≡ 1) × (count y old ≡ 0))
chosen-once [] d c y = inl refl
chosen-once (z ∷ zs) {old} {name} d c y =
    go (δ-cases y (name z)) (chosen-once zs (λ x. omega (arith, d x)) (tail-choice c) y)
  where
    S : ℕ
    S = sum (λ z. δ y (name z)) zs

    go : Delta y (name z) → (S ≡ 0) ⊎ ((S ≡ 1) × (count y old ≡ 0))
        → (δ y (name z) + S ≡ 0) ⊎ ((δ y (name z) + S ≡ 1) × (count y old ≡ 0))
    go (inl e) (inl h) = inr (omega (arith, e.1), ap (λ x. count x old) e.0 ∙ c.fresh z (omega (arith, δ_same z)))
    go (inl e) (inr h) =
        let k = find zs name y (omega (arith, h.0)) in
        let same : k.z ≡ z = c.apart k.z z (omega (arith, k.among)) (omega (arith, δ_same z)) (k.is ∙ e.0) in
        absurd (omega (arith, d z, δ_same z, k.among, ap (λ x. count x zs) same))
    go (inr e) (inl h) = inl (omega (arith, e.1))
    go (inr e) (inr h) = inr (omega (arith, e.1, h.0), h.1)
