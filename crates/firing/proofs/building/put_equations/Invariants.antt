-- `firing::building::put_equations` meets its contract.
use Rattle.firing.proofs.Builds.{Putting}
use Rattle.firing.specs.Built.{equations_of}
use Rattle.state.specs.Layout.{view}
use Rattle.firing.proofs.building.put_equations.Given as goal

abbrev pub invariant-loop-j : goal.invariant-loop-j
invariant-loop-j l = Putting l.rule.table.now l.rule.number l.frame (equations_of l.rule.table.now l.rule.number) (view l.initial.state) (view l.state) l.j
