-- Where each part of a lent table lies, the table that its bytes stand for, and the bytes of a table.
use Rattle.std.specs.Prelude.{ℕ, zero, suc, ◌+◌, ◌*◌, ◌/◌, ◌%◌, pred, List, [], ◌∷◌, ◌++◌, map, length, get_or, take}
use Rattle.parts.specs.Limits.{identifier_max, symbols_max, arity_max, rules_max, rule_equations_max, rule_cells_max, agent_size, node_size, rule_size}
use Rattle.parts.specs.Segments.{seg}
use Rattle.parts.specs.Sides.{Pair, ◌:=◌, code, side}
use Rattle.model.specs.Table.{Cell, Entry, Found, none, straight, turned, find}
use Rattle.texts.specs.Bytes.{Word}
use Rattle.texts.specs.Books.{Agent, Book}
use Rattle.texts.specs.Coded.{Table, table_of, arity_at, unpaired}
use Rattle.table.specs.Lists.{tab, blocks, filled, row_of}

-- The counts stand first: that of the symbols, a byte, and that of the rules, two, the low one first.
abbrev pub symbols_at : ℕ
symbols_at = 0

abbrev pub count_at : ℕ
count_at = 1

abbrev pub agents_at : ℕ
agents_at = 3

abbrev pub pairs_at : ℕ
pairs_at = agents_at + agent_size * symbols_max

abbrev pub rules_at : ℕ
rules_at = pairs_at + 2 * symbols_max * symbols_max

-- In the row of a rule: its two symbols, how many equations, cells and new names it has, then the sides of the equations and the cells.
abbrev pub sides_in : ℕ
sides_in = 5

abbrev pub nodes_in : ℕ
nodes_in = sides_in + 2 * rule_equations_max

-- The rows of a lent table.
abbrev pub agent_row : List ℕ → ℕ → List ℕ
agent_row w k = seg (agents_at + agent_size * k) agent_size w

abbrev pub rule_row : List ℕ → ℕ → List ℕ
rule_row w k = seg (rules_at + rule_size * k) rule_size w

-- The letters of a symbol end at the first 0.
unfoldable pub word : List ℕ → Word
word [] = []
word (zero ∷ bs) = []
word (suc b ∷ bs) = suc b ∷ word bs

unfoldable pub agent_of : List ℕ → Agent
agent_of r = record { symbol = word (take identifier_max r); arity = pred (get_or r identifier_max 0) }

unfoldable pub agent_at : List ℕ → ℕ → Agent
agent_at w s = agent_of (agent_row w s)

-- Equation k and cell k of a rule's row. A cell has as many arguments as its symbol.
abbrev pub equation_of : List ℕ → ℕ → Pair
equation_of r k = side (get_or r (sides_in + 2 * k) 0) := side (get_or r (sides_in + (1 + 2 * k)) 0)

abbrev pub symbol_of : List ℕ → ℕ → ℕ
symbol_of r k = pred (get_or r (nodes_in + node_size * k) 0)

unfoldable pub cell_of : List Agent → List ℕ → ℕ → Cell
cell_of ags r k = record {
  symbol = symbol_of r k;
  args = tab (arity_at ags (symbol_of r k)) (λ j. side (get_or r (nodes_in + (node_size * k + (1 + j))) 0));
}

unfoldable pub entry_of : List Agent → List ℕ → Entry
entry_of ags r = record {
  left = get_or r 0 0;
  right = get_or r 1 0;
  body = tab (get_or r 2 0) (equation_of r);
  cells = tab (get_or r 3 0) (cell_of ags r);
  fresh = get_or r 4 0;
}

-- The table that the bytes of a lent array stand for.
abbrev pub rules_in : List ℕ → ℕ
rules_in w = get_or w count_at 0 + 256 * get_or w (count_at + 1) 0

unfoldable pub agents_in : List ℕ → List Agent
agents_in w = tab (get_or w symbols_at 0) (λ k. agent_of (agent_row w k))

-- The rule with a number.
abbrev pub entry_at : List ℕ → ℕ → Entry
entry_at w k = entry_of (agents_in w) (rule_row w k)

unfoldable pub view : List ℕ → Table
view w = record { agents = agents_in w; rules = tab (rules_in w) (entry_at w) }

-- The rows that a table has.
unfoldable pub agent_bytes : Agent → List ℕ
agent_bytes a = filled identifier_max a.symbol ++ (suc a.arity ∷ [])

unfoldable pub node_bytes : Cell → List ℕ
node_bytes c = suc c.symbol ∷ filled arity_max (map code c.args)

unfoldable pub rule_bytes : Entry → List ℕ
rule_bytes e =
    e.left
    ∷ e.right
    ∷ length e.body
    ∷ length e.cells
    ∷ e.fresh
    ∷ (filled (2 * rule_equations_max) (map code (unpaired e.body))
    ++ blocks rule_cells_max (row_of node_size node_bytes e.cells))

-- What the index of pairs says: no rule, or its number and 1 where it is written so, 2 where it is written with its sides exchanged.
abbrev pub found_bytes : Found → List ℕ
found_bytes none = 0 ∷ 0 ∷ []
found_bytes (straight i e) = i ∷ 1 ∷ []
found_bytes (turned i e) = i ∷ 2 ∷ []

unfoldable pub pair_bytes : List Entry → List ℕ
pair_bytes rs = blocks symbols_max (λ a. blocks symbols_max (λ b. found_bytes (find rs 0 a b)))

-- The bytes of a table, every one of them.
unfoldable pub bytes_of : Table → List ℕ
bytes_of t =
    (length t.agents ∷ length t.rules % 256 ∷ length t.rules / 256 ∷ [])
    ++ (blocks symbols_max (row_of agent_size agent_bytes t.agents)
    ++ (pair_bytes t.rules ++ blocks rules_max (row_of rule_size rule_bytes t.rules)))

-- The bytes that a rule text gives.
unfoldable pub table_bytes : Book → List ℕ
table_bytes b = bytes_of (table_of b)
