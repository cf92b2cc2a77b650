-- `coding::making::node_byte` meets its contract.
use Rattle.std.proofs.Common.{rules}
use Rattle.coding.proofs.Made.{node_first, node-later}
use Rattle.coding.proofs.making.node_byte.Goals as goal

pub returns-then-j-eq0 : goal.returns-then-j-eq0
returns-then-j-eq0 c = search (rules, node_first)

pub returns : goal.returns
returns c = search (rules, node-later)
