-- The sizes of document 01, each written once. `Limits` in the code has the same figures, which `figures` proves.
use Rattle.std.specs.Prelude.{ℕ, ◌+◌, ◌*◌}

-- "Text 65,536 bytes. Identifier 1 to 16 bytes. 64 symbols, arity 0 to 4."
abbrev pub text_max : ℕ
text_max = 65536

abbrev pub identifier_max : ℕ
identifier_max = 16

abbrev pub symbols_max : ℕ
symbols_max = 64

abbrev pub arity_max : ℕ
arity_max = 4

-- "256 rules; the right side of each has at most 16 equations, 32 cells and 32 new names."
abbrev pub rules_max : ℕ
rules_max = 256

abbrev pub rule_equations_max : ℕ
rule_equations_max = 16

abbrev pub rule_cells_max : ℕ
rule_cells_max = 32

abbrev pub rule_names_max : ℕ
rule_names_max = 32

-- "Interface 0 to 16 terms. Net text: at most 256 equations, 2,048 cells, 2,048 different names."
abbrev pub face_max : ℕ
face_max = 16

abbrev pub net_equations_max : ℕ
net_equations_max = 256

abbrev pub net_cells_max : ℕ
net_cells_max = 2048

abbrev pub net_names_max : ℕ
net_names_max = 2048

-- "Level of a term in either text: 64 (an identifier outside brackets is level 1)."
abbrev pub level_max : ℕ
level_max = 64

-- "State: 2,048 cells, 2,048 names, 1,024 waiting. A stuck pair uses two cells, so 1,024 always suffice."
abbrev pub cells_max : ℕ
cells_max = 2048

abbrev pub names_max : ℕ
names_max = 2048

abbrev pub waiting_max : ℕ
waiting_max = 1024

abbrev pub stuck_max : ℕ
stuck_max = 1024

-- "Loops up to 4,294,967,295. Budget 0 to 1,000,000 interactions."
abbrev pub loops_max : ℕ
loops_max = 4294967295

abbrev pub budget_max : ℕ
budget_max = 1000000

-- What follows of them: the bytes of an agent, of a cell of a rule, of a rule and of a whole table that is lent.
abbrev pub agent_size : ℕ
agent_size = identifier_max + 1

abbrev pub node_size : ℕ
node_size = 1 + arity_max

abbrev pub rule_size : ℕ
rule_size = 5 + 2 * rule_equations_max + node_size * rule_cells_max

abbrev pub table_size : ℕ
table_size = 3 + agent_size * symbols_max + 2 * symbols_max * symbols_max + rule_size * rules_max
