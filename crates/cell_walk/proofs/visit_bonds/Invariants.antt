-- `cell_walk::visit_bonds` meets its contract.
use Rattle.std.proofs.Common.{drop}
use Rattle.model.specs.Reading.{bonds}
use Rattle.model.specs.Test.{sides_of}
use Rattle.state.specs.Layout.{view}
use Rattle.cell_walk.proofs.Steps.{Left}
use Rattle.cell_walk.proofs.visit_bonds.Given as goal

abbrev pub invariant-loop-x : goal.invariant-loop-x
invariant-loop-x l = Left l.lent.table.bytes.now (view l.lent.state.now) (sides_of (bonds 0 (view l.lent.state.now).names)) l.initial.seen (sides_of (bonds l.x (drop l.x (view l.lent.state.now).names))) l.seen
