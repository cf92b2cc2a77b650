-- One turn of a run, by the model's `run`.
use Rattle.std.specs.Prelude.{◌≡◌, List, ℕ, suc, ◌+◌, ◌-◌, ◌*◌, ◌≤◌, Result, Ok, Err}
use Rattle.parts.specs.Limits.{waiting_max, names_max}
use Rattle.model.specs.State.{St}
use Rattle.model.specs.Table.{Table}
use Rattle.model.specs.Run.{stopped, run}
use Rattle.model.specs.Walk.{ended, paused, noroom}
use Rattle.model.specs.Walk as Model
use Rattle.model.specs.Sound.{Sound}
use Rattle.sound.specs.Lent.{under}
use Rattle.table.specs.Given.{Given}
use Rattle.kept.specs.Right.{Right}
use Rattle.machine.specs.declared.turns.Running.{Running}
use Rattle.machine.specs.declared.outcome.Stop.{Stop}
use Rattle.machine.specs.declared.outcome.Stop.TheVariants.{Ended, Paused, NoRoom}

-- The steps that the model's run of a budget may make.
abbrev pub enough : ℕ → ℕ
enough budget = suc budget * suc (waiting_max + names_max)

pub record Turnable (w : List ℕ) (s : St) : Type 0 where
  pub given : Given w
  pub sound : Sound (under w) s

-- A step was made, and the run goes on from there with the budget that is left.
pub record WentOn (T : Table) (left : ℕ) (s : St) (r : Running) (s' : St) : Type 0 where
  pub runs : (steps made : ℕ) → run T (suc steps) left made s ≡ run T steps r.left (made + (left - r.left)) s'
  pub sound : Sound T s'
  pub right : Right r.kept s'
  pub few : r.left ≤ left

-- The model's word for the reason to stop.
abbrev pub stop_of : Stop → Model.Stop
stop_of Ended = ended
stop_of Paused = paused
stop_of NoRoom = noroom

unfoldable pub TurnAs : Table → ℕ → St → Result Running Stop → St → Type 0
TurnAs T left s (Ok r) s' = WentOn T left s r s'
TurnAs T left s (Err e) s' = ((steps made : ℕ) → run T (suc steps) left made s ≡ stopped (stop_of e) made s) × (s' ≡ s)
