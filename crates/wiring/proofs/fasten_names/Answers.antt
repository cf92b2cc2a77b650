-- `wiring::fasten_names` meets its contract.
use Rattle.std.proofs.Common.{rules}
use Rattle.wiring.proofs.Wires.{wirable-bound, fasten-loop, fasten-join}
use Rattle.wiring.proofs.fasten_names.Goals as goal

pub returns-then-eq : goal.returns-then-eq
returns-then-eq c = search (rules, fasten-loop)

pub set_name-requires : goal.set_name-requires
set_name-requires c = search (rules, wirable-bound)

pub returns : goal.returns
returns c = search (rules, fasten-join)
