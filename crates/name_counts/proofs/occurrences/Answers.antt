-- `name_counts::occurrences` meets its contract.
use Rattle.name_counts.proofs.Sums.{occurring_way}
use Rattle.std.proofs.Common.{rules}
use Rattle.name_counts.proofs.occurrences.Goals as goal

pub returns : goal.returns
returns c = search (rules, occurring_way)
