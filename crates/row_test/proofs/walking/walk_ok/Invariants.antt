-- `row_test::walking::walk_ok` meets its contract.
use Rattle.std.specs.Prelude.{◌+◌, ◌-◌, ◌*◌}
use Rattle.parts.specs.Limits.{rule_cells_max}
use Rattle.row_test.specs.Row.{sides_max}
use Rattle.row_test.proofs.Walks.{Walking}
use Rattle.row_test.proofs.walking.walk_ok.Given as goal

abbrev pub invariant-loop-top : goal.invariant-loop-top
invariant-loop-top l = Walking l.fit.table.now l.fit.row.now l.top l.stack l.met l.next

abbrev pub decreases-loop-top : goal.decreases-loop-top
decreases-loop-top l = 8 * (rule_cells_max - l.met) + (sides_max - l.top)
