-- `twice::first_loose` meets its contract.
use Rattle.std.proofs.Common.{rules}
use Rattle.twice.proofs.Counts.{seek_found, seek_more, seek_end}
use Rattle.twice.proofs.first_loose.Goals as goal

pub returns-then-loose : goal.returns-then-loose
returns-then-loose c = search (rules, seek_found)

pub loop-x-preserved : goal.loop-x-preserved
loop-x-preserved c = search (rules, seek_more)

pub returns : goal.returns
returns c = search (rules, seek_end)
