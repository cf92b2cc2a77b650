-- `putting::put_rule_row` meets its contract.
use Rattle.putting.proofs.Stores.{ruled_way}
use Rattle.std.proofs.Common.{rules}
use Rattle.putting.proofs.put_rule_row.Goals as goal

pub returns : goal.returns
returns c = search (rules, ruled_way)
