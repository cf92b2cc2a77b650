-- `machine::calls::run` meets its contract.
use Rattle.machine.proofs.Runs.{run_unsound, turnable, run_too_much, run-made}
use Rattle.std.proofs.Common.{rules}
use Rattle.machine.proofs.calls.run.Goals as goal

pub returns-then-not-both_sound : goal.returns-then-not-both_sound
returns-then-not-both_sound c = search (rules, run_unsound)

pub returns-then-budget-gt-BUDGET : goal.returns-then-budget-gt-BUDGET
returns-then-budget-gt-BUDGET c = search (rules, run_too_much)

pub run_on-requires : goal.run_on-requires
run_on-requires c = (search (rules, turnable), search rules)

pub returns : goal.returns
returns c = search (rules, run-made)
