-- `firing::building::fill_cell` meets its contract.
use Rattle.firing.proofs.Builds.{Arguing}
use Rattle.state.specs.Layout.{view}
use Rattle.firing.proofs.building.fill_cell.Given as goal

abbrev pub invariant-loop-j : goal.invariant-loop-j
invariant-loop-j l = Arguing l.rule.table.now l.rule.number l.frame l.m l.c.0 l.n (view l.initial.state) (view l.state) l.j
