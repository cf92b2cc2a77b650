-- `wiring::fasten` meets its contract.
use Rattle.std.proofs.Common.{rules}
use Rattle.wiring.proofs.Wires.{fasten_left, fasten_right}
use Rattle.wiring.proofs.fasten.Goals as goal

pub returns-in-Name-Cell : goal.returns-in-Name-Cell
returns-in-Name-Cell c = search (rules, fasten_left)

pub returns-in-Cell-Name : goal.returns-in-Cell-Name
returns-in-Cell-Name c = search (rules, fasten_right)
