-- `name_counts::times_inside` meets its contract.
use Rattle.name_counts.proofs.Sums.{inside_way}
use Rattle.std.proofs.Common.{rules}
use Rattle.name_counts.proofs.times_inside.Goals as goal

pub returns : goal.returns
returns c = search (rules, inside_way)
