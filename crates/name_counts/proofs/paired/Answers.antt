-- `name_counts::paired` meets its contract.
use Rattle.std.proofs.Common.{rules}
use Rattle.name_counts.specs.Totals.{paired}
use Rattle.name_counts.proofs.paired.Goals as goal

pub returns : goal.returns
unfolding paired
returns c = search rules
