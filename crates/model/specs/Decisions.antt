-- Two or three decisions as one.
use Rattle.std.specs.Prelude.{◌≡◌, ℕ}
use Rattle.std.proofs.Math.Decide.{ℕ_discrete}

abbrev pub both : (a b c d : ℕ) → Dec ((a ≡ c) × (b ≡ d))
both a b c d =
    elim (ℕ_discrete a c) [
      | yes p ↦ elim (ℕ_discrete b d) [ yes q ↦ yes (p, q) | no q ↦ no (λ h. q h.1) ]
      | no p ↦ no (λ h. p h.0)
    ]

abbrev pub all_three : {A B C : Type 0} → Dec A → Dec B → Dec C → Dec (A × B × C)
all_three c d e =
    elim c [
      | no p ↦ no (λ h. p h.0)
      | yes p ↦ elim d [ no q ↦ no (λ h. q h.1) | yes q ↦ elim e [ no r ↦ no (λ h. r h.2) | yes r ↦ yes (p, q, r) ] ]
    ]
