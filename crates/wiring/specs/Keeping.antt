-- What is kept beside a state, once the word of a name is new.
use Rattle.std.specs.Prelude.{ℕ, zero, suc, ◌+◌, ◌-◌, ◌≤◌, min, ◌≡◌}
use Rattle.parts.specs.Limits.{names_max}
use Rattle.model.specs.State.{St}
use Rattle.kept.specs.Right.{Right}
use Rattle.kept.specs.declared.Kept.{Kept}

-- A name whose word is 0 is free, and may be lower than all that were free.
abbrev pub lowered : ℕ → ℕ → ℕ → ℕ
lowered low x zero = min x low
lowered low x (suc w) = low

unfoldable pub renamed : Kept → ℕ → ℕ → ℕ → Kept
renamed k x old word = record {
  cells = k.cells;
  names = k.names - min 1 old + min 1 word;
  low_cell = k.low_cell;
  low_name = lowered k.low_name x word;
}

-- A name in use is counted.
pub record Renamable (k : Kept) (old : ℕ) : Type 0 where
  pub counted : min 1 old ≤ k.names
  pub few : k.names ≤ names_max

-- The state is the one meant, and what is kept beside it is right.
pub record Came (s : St) (k : Kept) (meant : St) : Type 0 where
  pub is : s ≡ meant
  pub right : Right k s
