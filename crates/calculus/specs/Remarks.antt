-- Remarks on the definitions, each proved: what a Communication leaves, when it does not apply, what nets that are one
-- have in common, and which rules of a symbol with itself are refused.
use Rattle.std.specs.Prelude.{[], ◌∷◌, ℕ}
use Rattle.calculus.specs.Terms.{var, Terms, ◌≐◌, Conf}

-- ⟨ t̄ | x = x ⟩, a loop. It is one equation, and Communication takes two: neither it nor Interaction applies.
abbrev pub loop : Terms → ℕ → Conf
loop ts x = record { face = ts; eqs = (var x ≐ var x) ∷ [] }

-- ⟨ t̄ | x = y, x = y ⟩. Taking x leaves the loop y = y, and taking y leaves the loop x = x.
abbrev pub twice : Terms → ℕ → ℕ → Conf
twice ts x y = record { face = ts; eqs = (var x ≐ var y) ∷ (var x ≐ var y) ∷ [] }
