-- What the test of a table asks of a rule's row, number by number.
use Rattle.std.specs.Prelude.{ℕ, ◌+◌, ◌*◌, ◌≤◌, ◌≡◌, Bool, true, cond, not, ◌&&◌, ◌||◌, List, map, length, get_or, take, drop, eqb, ltb, leb}
use Rattle.parts.specs.Limits.{symbols_max, rule_equations_max, rule_cells_max, rule_names_max, arity_max, node_size, rule_size}
use Rattle.parts.specs.Sides.{Side, name, cell, side}
use Rattle.model.specs.Table.{Entry}
use Rattle.texts.specs.Bytes.{all}
use Rattle.texts.specs.Books.{Agent}
use Rattle.texts.specs.Coded.{second_from, new_from, arity_at, unpaired}
use Rattle.texts.specs.TableTest.{agent_ok, code_ok, all_codes, standing, walk, met, numbered, is_two_sided}
use Rattle.table.specs.Layout.{agents_in, sides_in, nodes_in, symbol_of, entry_of}
use Rattle.row_test.specs.declared.codes.Codes.{Codes}

-- A row that is a rule's, within the sizes, in a table with good agents.
pub record RowFits (w r : List ℕ) : Type 0 where
  pub long : length r ≡ rule_size
  pub few : get_or r 2 0 ≤ rule_equations_max
  pub little : get_or r 3 0 ≤ rule_cells_max
  pub named : get_or r 4 0 ≤ rule_names_max
  pub symbols : length (agents_in w) ≤ symbols_max
  pub good : all agent_ok (agents_in w) ≡ true

-- The sides that gathered codes stand for.
abbrev pub sides_within : Codes → List Side
sides_within c = map side (take c.used c.list)

-- Whether a side is one of the left agent's arguments, of the right one's, of the new names or of the cells, by how many there are of each.
unfoldable pub side_fits : ℕ → ℕ → ℕ → ℕ → Side → Bool
side_fits l r n c (name x) = cond (ltb x second_from) (ltb x l) (cond (ltb x new_from) (ltb x (second_from + r)) (ltb x (new_from + n)))
side_fits l r n c (cell d) = ltb d c

abbrev pub code_fits : ℕ → ℕ → ℕ → ℕ → ℕ → Bool
code_fits l r n c x = side_fits l r n c (side x)

-- Cells and new names are numbered as they are met.
unfoldable pub walked : Entry → Bool
walked e = walk 0 (unpaired e.body) e.cells && numbered e.fresh 0 (met (unpaired e.body) e.cells)

-- The codes in the row of a rule: of the equations' sides, and of the first arguments of a cell; and how many a rule has at most.
abbrev pub sides_max : ℕ
sides_max = 2 * rule_equations_max + arity_max * rule_cells_max

unfoldable pub side_bytes : List ℕ → List ℕ
side_bytes r = take (2 * get_or r 2 0) (drop sides_in r)

unfoldable pub arg_bytes : List ℕ → ℕ → ℕ → List ℕ
arg_bytes r c a = take a (drop (nodes_in + (node_size * c + 1)) r)

-- How many arguments cell c of a row has.
abbrev pub arity_in : List ℕ → List ℕ → ℕ → ℕ
arity_in w r c = arity_at (agents_in w) (symbol_of r c)

-- The clauses of the test of a rule, in four groups: sizes, sides, order, and the rule of a symbol with itself.
abbrev pub sizes_fit : ℕ → List ℕ → Bool
sizes_fit n r =
    ltb (get_or r 0 0) n
    && ltb (get_or r 1 0) n
    && leb (get_or r 2 0) rule_equations_max
    && leb (get_or r 3 0) rule_cells_max
    && leb (get_or r 4 0) rule_names_max

unfoldable pub sides_fit : List Agent → Entry → Bool
sides_fit ags e =
    (all (code_ok ags e) (all_codes e) && (standing 1 (all_codes e) 0 (arity_at ags e.left) && standing 1 (all_codes e) second_from (arity_at ags e.right)))
    && standing 2 (all_codes e) new_from e.fresh

-- What is asked of a row that passed by its sizes and its cells.
abbrev pub fitting_test : List Agent → List ℕ → Bool
fitting_test ags r = (sides_fit ags (entry_of ags r) && walked (entry_of ags r)) && (not (eqb (get_or r 0 0) (get_or r 1 0)) || is_two_sided (entry_of ags r))
