-- `twice::times_in_cells` meets its contract.
use Rattle.std.proofs.Common.{rules}
use Rattle.twice.proofs.Counts.{cells_start, cells_more, cells_end}
use Rattle.twice.proofs.times_in_cells.Goals as goal

pub loop-c-init : goal.loop-c-init
loop-c-init c = search (rules, cells_start)

pub loop-c-preserved : goal.loop-c-preserved
loop-c-preserved c = search (rules, cells_more)

pub returns : goal.returns
returns c = search (rules, cells_end)
