-- The flat pass over a field: one walk with a count of open brackets, at any depth.
use Rattle.std.specs.Prelude.{ℕ, zero, suc, Bool, false, cond, ◌||◌, List, [], ◌∷◌, eqb}
use Rattle.texts.specs.Bytes.{letter, word_byte}

-- Where the walk stands, with d brackets open: before a term, in an identifier, after a bracket that closes, or past a byte that no term has there.
pub data Scan : Type 0 where
  want : (d : ℕ) → Scan
  word : (d : ℕ) → Scan
  shut : (d : ℕ) → Scan
  lost : Scan

unfoldable pub after_term : ℕ → ℕ → Scan
after_term zero b = lost
after_term (suc d) b = cond (eqb b 44) (want (suc d)) (cond (eqb b 41) (shut d) lost)

unfoldable pub next : Scan → ℕ → Scan
next (want d) b = cond (letter b || eqb b 95) (word d) lost
next (word d) b = cond (word_byte b) (word d) (cond (eqb b 40) (want (suc d)) (after_term d b))
next (shut d) b = after_term d b
next lost b = lost

unfoldable pub scan : Scan → List ℕ → Scan
scan q [] = q
scan q (b ∷ bs) = scan (next q b) bs

unfoldable pub done : Scan → Bool
done (want d) = false
done (word d) = eqb d 0
done (shut d) = eqb d 0
done lost = false
