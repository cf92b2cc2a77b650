-- `machine::calls::run_on` meets its contract.
use Rattle.std.proofs.Common.{◌-◌}
use Rattle.machine.proofs.Runs.{Going}
use Rattle.state.specs.Layout.{view}
use Rattle.machine.proofs.calls.run_on.Given as goal

abbrev pub invariant-loop : goal.invariant-loop
invariant-loop l = Going l.table (view l.initial.state) l.budget (view l.state) l.r (l.end - l.counter)
