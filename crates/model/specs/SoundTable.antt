-- When the machine's table is sound. A table is sound in document 01's own words (crates/texts/specs/Good.antt)
-- exactly if the machine's is and its symbols are well spelt (`table-machine`, crates/texts/proofs/Main.antt).
use Rattle.std.specs.Prelude.{◌≡◌, [], ℕ, ◌≤◌, ◌<◌, length, get_or}
use Rattle.calculus.specs.Calculus.{Rule, Proper, SamePair}
use Rattle.calculus.specs.Rules.{Plain}
use Rattle.parts.specs.Limits.{arity_max, symbols_max, rules_max, rule_equations_max, rule_cells_max, rule_names_max}
use Rattle.model.specs.Table.{Cell, Entry, Table, arity, no_cell, entry}
use Rattle.model.specs.Sound.{Means}

-- A cell is of a declared symbol, with that many arguments.
pub record Declared (T : Table) (k : Cell) : Type 0 where
  pub symbol : k.symbol < length T.arities
  pub args : length k.args ≡ arity T k.symbol

-- The rule conditions of document 01: the names by `proper`, the sizes, and for a symbol with itself `plain`: "its
-- right side has no agents and no new names, and its set of unordered pairs is unchanged when the two left argument
-- lists change places".
pub record SoundEntry (T : Table) (e : Entry) (r : Rule) : Type 0 where
  pub means : Means T e r
  pub proper : Proper r
  pub left : e.left < length T.arities
  pub right : e.right < length T.arities
  pub cells : (m : ℕ) → m < length e.cells → Declared T (get_or e.cells m no_cell)
  pub few_equations : length e.body ≤ rule_equations_max
  pub few_cells : length e.cells ≤ rule_cells_max
  pub few_names : e.fresh ≤ rule_names_max
  pub plain : e.left ≡ e.right → Plain r × (e.cells ≡ [])

-- "One rule for each pair of symbols, whichever is written first."
pub record SoundTable (T : Table) : Type 0 where
  pub few_symbols : length T.arities ≤ symbols_max
  pub few_rules : length T.rules ≤ rules_max
  pub arities : (s : ℕ) → arity T s ≤ arity_max
  pub rule : ℕ → Rule
  pub entries : (i : ℕ) → i < length T.rules → SoundEntry T (entry T i) (rule i)
  pub single : (i j : ℕ) → i < length T.rules → j < length T.rules → SamePair (rule i) (rule j) → i ≡ j
