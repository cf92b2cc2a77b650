-- `name_counts::bound_once` meets its contract.
use Rattle.std.proofs.Common.{rules}
use Rattle.name_counts.proofs.Sums.{bound_way}
use Rattle.name_counts.proofs.bound_once.Goals as goal

pub returns : goal.returns
returns c = search (rules, bound_way)
