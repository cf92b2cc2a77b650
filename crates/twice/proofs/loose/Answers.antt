-- `twice::loose` meets its contract.
use Rattle.std.proofs.Common.{rules}
use Rattle.twice.proofs.Counts.{loose_way}
use Rattle.twice.proofs.loose.Goals as goal

pub returns : goal.returns
returns c = search (rules, loose_way)
