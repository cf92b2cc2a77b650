-- The sides of an equation and their codes, as numbers: even for a name, odd for a cell.
use Rattle.std.specs.Prelude.{ℕ, zero, suc, ◌+◌, ◌*◌, ◌/◌, ◌%◌}

-- "Each side of an equation is a name or a cell."
pub data Side : Type 0 where
  name : ℕ → Side
  cell : ℕ → Side

infix 50 ◌:=◌
-- An equation of two sides.
pub data Pair : Type 0 where
  ◌:=◌ : Side → Side → Pair

-- The code of a side, and the side of a code: one undoes the other (`side-code`, `code-side` in Codes.antt).
abbrev pub code : Side → ℕ
code (name x) = 2 * x
code (cell c) = 1 + 2 * c

unfoldable pub side : ℕ → Side
side n = elim (n % 2) [ zero ↦ name (n / 2) | suc r ↦ cell (n / 2) ]
