-- `cell_walk::visit` and `cell_walk::visit_row` meet their contracts. The measure is the cells not yet met.
use Rattle.std.proofs.Common.{◌+◌, ◌-◌, ◌*◌}
use Rattle.state.specs.Layout.{view}
use Rattle.state.specs.Places.{words}
use Rattle.cell_walk.specs.Walks.{row, unmet}
use Rattle.cell_walk.proofs.Steps.{Left}
use Rattle.cell_walk.proofs.+visit_visit_row.Given as goal

abbrev pub decreases-visit : goal.decreases-visit
decreases-visit l = 2 * unmet l.seen.now

abbrev pub decreases-visit_row : goal.decreases-visit_row
decreases-visit_row l = 2 * unmet l.seen.now + 1

abbrev pub invariant-visit_row-loop-i : goal.invariant-visit_row-loop-i
invariant-visit_row-loop-i l = Left l.lent.table.bytes.now (view l.lent.state.now) (row (words l.p (view l.lent.state.now)) l.from l.n) l.initial.seen (row (words l.p (view l.lent.state.now)) (l.from + l.i) (l.n - l.i)) l.seen
