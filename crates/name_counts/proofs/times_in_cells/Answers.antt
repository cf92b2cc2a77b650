-- `name_counts::times_in_cells` meets its contract.
use Rattle.std.proofs.Common.{rules}
use Rattle.name_counts.proofs.Sums.{sum_start, sum_more, sum_skip, sum_end, inside_none}
use Rattle.name_counts.proofs.times_in_cells.Goals as goal

pub loop-c-init : goal.loop-c-init
loop-c-init c = search (rules, sum_start)

pub loop-c-preserved-then-n-eq0 : goal.loop-c-preserved-then-n-eq0
loop-c-preserved-then-n-eq0 c = search (rules, sum_skip, inside_none)

pub loop-c-preserved : goal.loop-c-preserved
loop-c-preserved c = search (rules, sum_more)

pub returns : goal.returns
returns c = search (rules, sum_end)
