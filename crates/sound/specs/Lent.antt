-- The table that a lent array stands for in the machine, and what the tests of a state ask of that array and of the symbols in a state.
use Rattle.std.specs.Prelude.{◌≡◌, List, ℕ, ◌≤◌, length, get_or}
use Rattle.parts.specs.Limits.{symbols_max, arity_max}
use Rattle.model.specs.State.{St}
use Rattle.model.specs.Table.{Table}
use Rattle.texts.specs.Coded.{machine, arity_at}
use Rattle.table.specs.Layout.{agents_in, bytes_of, view}

unfoldable pub under : List ℕ → Table
under w = machine (view w)

-- Its bytes are just those of the table that it stands for, which keeps to the sizes.
pub record Usable (w : List ℕ) : Type 0 where
  pub exact : w ≡ bytes_of (view w)
  pub few : length (agents_in w) ≤ symbols_max
  pub narrow : (s : ℕ) → arity_at (agents_in w) s ≤ arity_max

-- Every cell has a symbol that the table can have.
abbrev pub Symbols : St → Type 0
Symbols s = (c : ℕ) → get_or s.symbols c 0 ≤ symbols_max
