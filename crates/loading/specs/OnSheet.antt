-- The net that stands on a sheet and in a list of codes.
use Rattle.std.specs.Prelude.{ℕ, ◌+◌, ◌*◌, ◌≤◌, pred, List, length, get_or}
use Rattle.parts.specs.Limits.{arity_max, symbols_max, face_max, net_cells_max, net_names_max, net_equations_max}
use Rattle.parts.specs.Sides.{Side, Pair, ◌:=◌, side}
use Rattle.model.specs.Table.{Cell}
use Rattle.model.specs.Load.{Net}
use Rattle.texts.specs.Books.{Agent}
use Rattle.texts.specs.Coded.{arity_at}
use Rattle.table.specs.Layout.{agents_in}
use Rattle.table.specs.Lists.{tab}
use Rattle.terms.specs.Sheet.{Sheet}

-- A cell: its symbol, as many arguments as that takes, and the codes of these.
unfoldable pub symbol_on : Sheet → ℕ → ℕ
symbol_on s c = pred (get_or s.symbols c 0)

unfoldable pub width_on : List Agent → Sheet → ℕ → ℕ
width_on ags s c = arity_at ags (symbol_on s c)

unfoldable pub cell_on : List Agent → Sheet → ℕ → Cell
cell_on ags s c = record {
  symbol = symbol_on s c;
  args = tab (width_on ags s c) (λ k. side (get_or s.arguments (arity_max * c + k) 0));
}

unfoldable pub cells_on : List Agent → Sheet → List Cell
cells_on ags s = tab s.cells (cell_on ags s)

-- The codes: first those of f interface terms, then two for each of n equations.
unfoldable pub face_on : List ℕ → ℕ → List Side
face_on codes f = tab f (λ k. side (get_or codes k 0))

abbrev pub equation_on : List ℕ → ℕ → ℕ → Pair
equation_on codes f k = side (get_or codes (f + 2 * k) 0) := side (get_or codes (f + 2 * k + 1) 0)

unfoldable pub equations_on : List ℕ → ℕ → ℕ → List Pair
equations_on codes f n = tab n (equation_on codes f)

unfoldable pub net_on : List Agent → Sheet → List ℕ → ℕ → ℕ → Net
net_on ags s codes f n = record {
  face = face_on codes f;
  equations = equations_on codes f n;
  cells = cells_on ags s;
  names = s.names;
}

-- The agents of a lent table keep to the sizes.
pub record Lent (table : List ℕ) : Type 0 where
  pub few : length (agents_in table) ≤ symbols_max
  pub narrow : (k : ℕ) → arity_at (agents_in table) k ≤ arity_max

-- So does what stands on the sheet and in the codes.
pub record Ready (s : Sheet) (f n : ℕ) : Type 0 where
  pub cells : s.cells ≤ net_cells_max
  pub names : s.names ≤ net_names_max
  pub faces : f ≤ face_max
  pub equations : n ≤ net_equations_max
