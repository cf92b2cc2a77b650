-- The size of a lent sheet, and where each of its parts begins.
use Rattle.std.specs.Prelude.{ℕ, ◌+◌, ◌*◌}
use Rattle.parts.specs.Limits.{arity_max, net_cells_max, net_names_max}

-- a sheet: the two counts, a word for each cell's symbol, its arguments, and two words for each name
abbrev pub cells_at : ℕ
cells_at = 0

abbrev pub names_at : ℕ
names_at = 1

abbrev pub symbols_at : ℕ
symbols_at = 2

abbrev pub arguments_at : ℕ
arguments_at = symbols_at + net_cells_max

abbrev pub places_at : ℕ
places_at = arguments_at + arity_max * net_cells_max

abbrev pub sheet_size : ℕ
sheet_size = places_at + 2 * net_names_max
