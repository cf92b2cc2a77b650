-- `twice::is_name` meets its contract.
use Rattle.std.proofs.Common.{rules}
use Rattle.twice.proofs.Counts.{is_way}
use Rattle.twice.proofs.is_name.Goals as goal

pub returns : goal.returns
returns c = search (rules, is_way)
