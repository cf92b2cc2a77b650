-- What the test of the stuck pairs asks of one of them.
use Rattle.std.specs.Prelude.{Bool, [], ◌∷◌, ℕ}
use Rattle.model.specs.State.{St, equation}
use Rattle.model.specs.Table.{Table}
use Rattle.model.specs.Sound.{mem_of}
use Rattle.model.specs.Test.{unruled}

-- Stuck pair number k from the start is of two cells with no rule.
unfoldable pub held : Table → St → ℕ → Bool
held T s k = unruled T.rules (mem_of T s) (equation k s.stuck.words ∷ [])
