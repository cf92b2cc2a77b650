-- A frame: the codes that the names and cells of a right side stand for, by number.
use Rattle.std.specs.Prelude.{List, [], ◌∷◌, ℕ, ◌+◌, ◌*◌, ◌/◌, get_or}
use Rattle.parts.specs.Limits.{arity_max, rule_names_max, rule_cells_max}
use Rattle.parts.specs.Sides.{Side, name, cell, side}

-- The arguments of the two cells stand first, then the new names, then the new cells.
abbrev pub names_at : ℕ
names_at = 2 * arity_max

abbrev pub cells_at : ℕ
cells_at = names_at + rule_names_max

abbrev pub frame_size : ℕ
frame_size = cells_at + rule_cells_max

-- The place of a side of a right side in the frame.
abbrev pub place : Side → ℕ
place (name z) = z
place (cell m) = cells_at + m

-- What a code of a right side stands for, and the number of its cell m.
unfoldable pub worth : List ℕ → ℕ → ℕ
worth F n = get_or F (place (side n)) 0

unfoldable pub cell_in : List ℕ → ℕ → ℕ
cell_in F m = get_or F (cells_at + m) 0 / 2

-- The codes of the arguments of cell c.
abbrev pub four : ℕ → List ℕ → List ℕ
four c l =
    get_or l (arity_max * c + 0) 0 ∷ get_or l (arity_max * c + 1) 0 ∷ get_or l (arity_max * c + 2) 0 ∷ get_or l (arity_max * c + 3) 0 ∷ []
