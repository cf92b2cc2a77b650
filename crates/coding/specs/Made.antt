-- What the rule holds that is made of a sheet and of the codes of its sides.
use Rattle.std.specs.Prelude.{ℕ, zero, suc, ◌+◌, ◌*◌, ◌/◌, ◌%◌, ◌-◌, ◌<◌, ◌≤◌, ◌≡◌, List, length, get_or}
use Rattle.parts.specs.Limits.{symbols_max, arity_max, rule_equations_max, rule_cells_max, rule_names_max, node_size}
use Rattle.texts.specs.Coded.{new_from}
use Rattle.table.specs.declared.Rule.{Rule}
use Rattle.terms.specs.Sheet.{Sheet}

-- How many numbers a byte holds.
abbrev pub byte_size : ℕ
byte_size = 256

-- Byte j of cell c.
unfoldable pub node_byte : Sheet → ℕ → ℕ → ℕ
node_byte s c zero = get_or s.symbols c 0 % byte_size
node_byte s c (suc k) = get_or s.arguments (arity_max * c + k) 0 % byte_size

-- An array of a known length, the first n bytes of which are those of f.
pub record Filled (l : List ℕ) (size : ℕ) (f : ℕ → ℕ) (n : ℕ) : Type 0 where
  pub long : length l ≡ size
  pub each : (i : ℕ) → i < n → get_or l i 0 ≡ f i

-- The bytes of the sides, and of the cells.
unfoldable pub side_bytes : List ℕ → ℕ → ℕ
side_bytes codes i = get_or codes i 0 % byte_size

unfoldable pub node_bytes : Sheet → ℕ → ℕ
node_bytes s p = node_byte s (p / node_size) (p % node_size)

-- What is within the sizes of a rule.
pub record Makeable (l r n : ℕ) (codes : List ℕ) (s : Sheet) : Type 0 where
  pub left : l < symbols_max
  pub right : r < symbols_max
  pub few : n ≤ 2 * rule_equations_max
  pub there : n ≤ length codes
  pub cells : s.cells ≤ rule_cells_max
  pub arguments : new_from ≤ s.names
  pub names : s.names ≤ new_from + rule_names_max

pub record Made (rule : Rule) (l r n : ℕ) (codes : List ℕ) (s : Sheet) : Type 0 where
  pub left : rule.left ≡ l
  pub right : rule.right ≡ r
  pub equations : rule.equations ≡ n / 2
  pub cells : rule.cells ≡ s.cells
  pub names : rule.names ≡ s.names - new_from
  pub sides : Filled rule.sides (2 * rule_equations_max) (side_bytes codes) n
  pub nodes : Filled rule.nodes (node_size * rule_cells_max) (node_bytes s) (node_size * s.cells)
