-- `cell_walk::visit_pile` meets its contract.
use Rattle.std.proofs.Common.{◌≤◌}
use Rattle.model.specs.State.{unpack}
use Rattle.model.specs.Test.{sides_of}
use Rattle.state.specs.Layout.{view}
use Rattle.state.specs.Places.{words}
use Rattle.cell_walk.proofs.Steps.{Left}
use Rattle.cell_walk.proofs.visit_pile.Given as goal

abbrev pub invariant-loop-k : goal.invariant-loop-k
invariant-loop-k l = (l.k ≤ l.n) × Left l.lent.table.bytes.now (view l.lent.state.now) (sides_of (unpack l.n (words l.p (view l.lent.state.now)))) l.initial.seen (sides_of (unpack l.k (words l.p (view l.lent.state.now)))) l.seen
