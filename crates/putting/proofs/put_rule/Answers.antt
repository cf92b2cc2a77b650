-- `putting::put_rule` meets its contract.
use Rattle.putting.proofs.Stores.{by_value, value_room}
use Rattle.std.proofs.Common.{rules}
use Rattle.putting.proofs.put_rule.Goals as goal

pub put_numbers-requires : goal.put_numbers-requires
put_numbers-requires c = let s = c in value_room _ _ s.args.rule c.flat-row.ensures s.requires.0 s.requires.1 s.requires.2 s.requires.3

pub returns : goal.returns
returns c = search (rules, by_value)
