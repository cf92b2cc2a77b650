-- `machine::calls::step` meets its contract.
use Rattle.machine.proofs.Steps.{step_unsound, step_past, steppable, step_made, step-full}
use Rattle.std.proofs.Common.{rules}
use Rattle.machine.proofs.calls.step.Goals as goal

pub returns-then-not-both_sound : goal.returns-then-not-both_sound
returns-then-not-both_sound c = search (rules, step_unsound)

pub returns-then-count-pick : goal.returns-then-count-pick
returns-then-count-pick c = search (rules, step_past)

pub step_on-requires : goal.step_on-requires
step_on-requires c = (search (rules, steppable), search rules)

pub returns-in-Ok : goal.returns-in-Ok
returns-in-Ok c = search (rules, step_made)

pub returns-in-Err : goal.returns-in-Err
returns-in-Err c = search (rules, step-full)
