-- What the parts of the evaluator promise of the output.
use Rattle.std.specs.Prelude.{ℕ, ◌≤◌, ◌≡◌, List}
use Rattle.state.specs.Layout.{view}
use Rattle.lent.specs.Both.{BothSound}
use Rattle.printing.specs.Puts.{Puts}
use Rattle.evaluation.specs.Evaluated.{output_size}

-- The bytes bs stand at the start of the output, which has room for them, and r is their length.
pub record Printed (bs o : List ℕ) (r : ℕ) (o' : List ℕ) : Type 0 where
  pub puts : Puts bs 0 o r o'
  pub within : r ≤ output_size

-- What the printer of an end asks for: a sound table and state, in which nothing waits.
pub record Endable (w v : List ℕ) : Type 0 where
  pub sound : BothSound w v
  pub waits : (view v).waiting.used ≡ 0
