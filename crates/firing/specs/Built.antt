-- The right side of a rule built in a state, as the code reads it from the rule's row and a frame.
use Rattle.std.specs.Prelude.{List, map, ℕ, zero, suc, ◌+◌, ◌*◌, ◌<◌, ◌≤◌, length, get_or}
use Rattle.std.specs.Coded.{le_prop}
use Rattle.std.proofs.lemmas.List.Edits.{sets}
use Rattle.parts.specs.Limits.{arity_max, symbols_max, rules_max, rule_equations_max, rule_cells_max, rule_names_max, cells_max, node_size}
use Rattle.parts.specs.Sides.{Side, name, cell, Pair, ◌:=◌, side}
use Rattle.model.specs.State.{St, from}
use Rattle.model.specs.Step.{puts}
use Rattle.state.specs.Places.{with_words}
use Rattle.state.specs.declared.Part.TheVariants.{Arguments}
use Rattle.texts.specs.Coded.{arity_at}
use Rattle.table.specs.Layout.{sides_in, nodes_in, rule_row, symbol_of, agents_in}
use Rattle.table.specs.Lists.{tab}
use Rattle.firing.specs.Frames.{names_at, worth, cell_in}

-- How many equations, cells and new names rule i has, and how many arguments its cell m.
abbrev pub equations_of : List ℕ → ℕ → ℕ
equations_of w i = get_or (rule_row w i) 2 0

abbrev pub cells_of : List ℕ → ℕ → ℕ
cells_of w i = get_or (rule_row w i) 3 0

abbrev pub names_of : List ℕ → ℕ → ℕ
names_of w i = get_or (rule_row w i) 4 0

abbrev pub width_of : List ℕ → ℕ → ℕ → ℕ
width_of w i m = arity_at (agents_in w) (symbol_of (rule_row w i) m)

-- The codes of its sides and of the arguments of its cells.
abbrev pub side_of : List ℕ → ℕ → ℕ → ℕ
side_of w i j = get_or (rule_row w i) (sides_in + j) 0

abbrev pub argument_of : List ℕ → ℕ → ℕ → ℕ → ℕ
argument_of w i m j = get_or (rule_row w i) (nodes_in + (node_size * m + (1 + j))) 0

-- A side of a right side is an argument, one of the new names, or one of the cells.
abbrev pub Inside : List ℕ → ℕ → Side → Type 0
Inside w i (name z) = z < names_at + names_of w i
Inside w i (cell m) = m < cells_of w i

pub Inside-prop : (w : List ℕ) (i : ℕ) (s : Side) → IsProp (Inside w i s)
Inside-prop w i (name z) = le_prop
Inside-prop w i (cell m) = le_prop

-- What reading rule i of a lent table asks of it.
pub record Ruled (w : List ℕ) (i : ℕ) : Type 0 where
  pub number : i < rules_max
  pub agents : length (agents_in w) ≤ symbols_max
  pub narrow : (s : ℕ) → arity_at (agents_in w) s ≤ arity_max
  pub equations : equations_of w i ≤ rule_equations_max
  pub cells : cells_of w i ≤ rule_cells_max
  pub names : names_of w i ≤ rule_names_max
  pub symbols : (m : ℕ) → m < cells_of w i → symbol_of (rule_row w i) m < symbols_max
  pub sides : (j : ℕ) → j < equations_of w i → Inside w i (side (side_of w i (2 * j))) × Inside w i (side (side_of w i (1 + 2 * j)))
  pub arguments : (m j : ℕ) → m < cells_of w i → j < width_of w i m → Inside w i (side (argument_of w i m j))

-- These facts have one proof at most, so a struct may hold them.
pub Ruled-prop : (w : List ℕ) (i : ℕ) → IsProp (Ruled w i)
Ruled-prop w i = hlevel (le_prop, Inside-prop)

-- The word of the symbol of cell m.
abbrev pub symbol_word : List ℕ → ℕ → ℕ → ℕ
symbol_word w i m = symbol_of (rule_row w i) m + 1

-- Every cell in the frame is one of the state's.
pub record CellsIn (w : List ℕ) (i : ℕ) (F : List ℕ) : Type 0 where
  pub inside : (m : ℕ) → m < cells_of w i → cell_in F m < cells_max

-- Argument j of cell m, what it stands for; and the arguments of cell m, and of k cells from m on, written.
unfoldable pub value : List ℕ → ℕ → List ℕ → ℕ → ℕ → ℕ
value w i F m j = worth F (argument_of w i m j)

unfoldable pub argued : List ℕ → ℕ → List ℕ → ℕ → List ℕ → List ℕ
argued w i F m l = sets l (arity_max * cell_in F m) (tab (width_of w i m) (value w i F m))

unfoldable pub argued_from : List ℕ → ℕ → List ℕ → ℕ → ℕ → List ℕ → List ℕ
argued_from w i F m zero l = l
argued_from w i F m (suc k) l = argued_from w i F (suc m) k (argued w i F m l)

unfoldable pub argued_on : List ℕ → ℕ → List ℕ → ℕ → ℕ → St → St
argued_on w i F m k s = with_words Arguments (argued_from w i F m k s.arguments) s

-- Equation j, what it stands for; and k equations from j on put, so that the first becomes the head.
unfoldable pub equation_for : List ℕ → ℕ → List ℕ → ℕ → Pair
equation_for w i F j = side (worth F (side_of w i (2 * j))) := side (worth F (side_of w i (1 + 2 * j)))

unfoldable pub put_from : List ℕ → ℕ → List ℕ → ℕ → ℕ → St → St
put_from w i F j k s = puts (map (equation_for w i F) (from j k)) s
