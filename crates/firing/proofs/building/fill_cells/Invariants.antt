-- `firing::building::fill_cells` meets its contract.
use Rattle.firing.proofs.Builds.{Filling}
use Rattle.firing.specs.Built.{cells_of}
use Rattle.state.specs.Layout.{view}
use Rattle.firing.proofs.building.fill_cells.Given as goal

abbrev pub invariant-loop-m : goal.invariant-loop-m
invariant-loop-m l = Filling l.rule.table.now l.rule.number l.frame (cells_of l.rule.table.now l.rule.number) (view l.initial.state) (view l.state) l.m
