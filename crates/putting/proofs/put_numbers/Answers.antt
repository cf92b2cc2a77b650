-- `putting::put_numbers` meets its contract.
use Rattle.putting.proofs.Stores.{put_rule_way}
use Rattle.std.proofs.Common.{rules}
use Rattle.putting.proofs.put_numbers.Goals as goal

pub returns : goal.returns
returns c = search (rules, put_rule_way)
