-- Where a byte of some kind first stands in a text.
use Rattle.std.specs.Prelude.{ℕ, suc, Bool, cond, not, List, [], ◌∷◌, eqb}
use Rattle.texts.specs.Bytes.{allowed}

-- the place of the first byte that passes the test, or the length where none does
unfoldable pub place : (ℕ → Bool) → List ℕ → ℕ
place f [] = 0
place f (x ∷ xs) = cond (f x) 0 (suc (place f xs))

-- number 2: the place of the first byte that is not allowed
abbrev pub bad_at : List ℕ → ℕ
bad_at l = place (λ b. not (allowed b)) l

-- the test for one byte
abbrev pub is : ℕ → ℕ → Bool
is b x = eqb x b
