-- What the public calls promise: the answer by document 01's number, and the state afterwards.
use Rattle.std.specs.Prelude.{List, ℕ, Result, Ok, Err}
use Rattle.std.proofs.Math.Decide.{dec_lt}
use Rattle.parts.specs.Faults.{fault_number}
use Rattle.parts.specs.Limits.{budget_max}
use Rattle.parts.specs.declared.faults.Fault.{Fault}
use Rattle.model.specs.State.{St}
use Rattle.model.specs.Step.{Answer, moved, refused}
use Rattle.model.specs.Stepped.{stepped}
use Rattle.model.specs.Table.{Table}
use Rattle.model.specs.Run.{ran}
use Rattle.model.specs.Walk.{Stop, Ran}
use Rattle.state.specs.Layout.{view}
use Rattle.sound.specs.Lent.{under}
use Rattle.lent.specs.Decided.{if_sound}
use Rattle.machine.specs.Turns.{stop_of}
use Rattle.machine.specs.declared.calls.Ran as Code

-- Made; or stopped for a reason, with the interactions made; or refused by a number.
pub data Told : Type 0 where
  made : Told
  stopped : Stop → ℕ → Told
  number : ℕ → Told

-- What is told, and the state that is left.
pub record Out : Type 0 where
  pub told : Told
  pub state : St

abbrev pub out : Told → St → Out
out t s = record { told = t; state = s }

abbrev pub step_told : Result (Unit {0}) Fault → Told
step_told (Ok u) = made
step_told (Err f) = number (fault_number f)

-- What the model answers; a refused call leaves the state as it was.
abbrev pub answered : Answer → St → Out
answered (moved s') s = out made s'
answered (refused n) s = out (number n) s

unfoldable pub step_called : List ℕ → List ℕ → ℕ → Out
step_called w v p = if_sound w v (answered (stepped (under w) (view v) p) (view v)) (out (number 16) (view v))

abbrev pub ran_told : Code.Ran → Told
ran_told r = stopped (stop_of r.stop) r.made

abbrev pub run_told : Result Code.Ran Fault → Told
run_told (Ok r) = ran_told r
run_told (Err f) = number (fault_number f)

-- A stopped run leaves the state after the last step made.
abbrev pub stood : Ran → Out
stood r = out (stopped r.stop r.made) r.state

unfoldable pub ran_out : Table → ℕ → St → Out
ran_out T budget s = stood (ran T budget s)

unfoldable pub run_called : List ℕ → List ℕ → ℕ → Out
run_called w v budget =
    if_sound w v
    (elim (dec_lt budget_max budget) [ yes h ↦ out (number 17) (view v) | no h ↦ ran_out (under w) budget (view v) ])
    (out (number 16) (view v))
