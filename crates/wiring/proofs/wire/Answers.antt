-- `wiring::wire` meets its contract.
use Rattle.std.proofs.Common.{rules}
use Rattle.wiring.proofs.Wires.{end_small, wirable-once, second-small, wirable-twice, countable, wire_way}
use Rattle.wiring.proofs.wire.Goals as goal

pub drop_bond-k2-requires : goal.drop_bond-k2-requires
drop_bond-k2-requires c = search (rules, wirable-once)

pub fasten-requires-clause-wirable : goal.fasten-requires-clause-wirable
fasten-requires-clause-wirable c = (search (rules, wirable-twice), search (rules, end_small), search (rules, second-small), search rules)

pub fasten-requires-clause-countable : goal.fasten-requires-clause-countable
fasten-requires-clause-countable c = search (rules, countable)

pub returns : goal.returns
returns c = search (rules, wire_way)
