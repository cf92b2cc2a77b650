-- `twice::times_in_cell` meets its contract.
use Rattle.std.proofs.Common.{rules}
use Rattle.twice.proofs.Counts.{tally_start, tally_more, args_end}
use Rattle.twice.proofs.times_in_cell.Goals as goal

pub loop-k-init : goal.loop-k-init
loop-k-init c = search (rules, tally_start)

pub loop-k-preserved : goal.loop-k-preserved
loop-k-preserved c = search (rules, tally_more)

pub returns : goal.returns
returns c = search (rules, args_end)
