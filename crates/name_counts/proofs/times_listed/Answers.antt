-- `name_counts::times_listed` meets its contract.
use Rattle.std.proofs.Common.{rules}
use Rattle.name_counts.proofs.Sums.{sum_start, sum_more, ones_end, mark_way}
use Rattle.name_counts.proofs.times_listed.Goals as goal

pub loop-i-init : goal.loop-i-init
loop-i-init c = search (rules, sum_start)

pub loop-i-preserved : goal.loop-i-preserved
loop-i-preserved c = search (rules, sum_more, mark_way)

pub returns : goal.returns
returns c = search (rules, ones_end)
