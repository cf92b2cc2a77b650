-- A byte that is none of a mark.
use Rattle.std.specs.Prelude.{ℕ, Bool, not}
use Rattle.std.proofs.Math.Dec.{eqb}

-- A byte that is none of the text's marks.
unfoldable pub free : ℕ → ℕ → Bool
free m b = not (eqb b m)
