-- `coding::making::nodes_of` meets its contract: the loop's invariant is `Filled`.
use Rattle.std.proofs.Common.{rules}
use Rattle.coding.proofs.Made.{filled_none, filled_end, node_more, node_there}
use Rattle.coding.proofs.making.nodes_of.Goals as goal

pub loop-p-init : goal.loop-p-init
loop-p-init c = search (rules, filled_none)

pub node_byte-requires : goal.node_byte-requires
node_byte-requires c = search (rules, node_there)

pub loop-p-preserved : goal.loop-p-preserved
loop-p-preserved c = search (rules, node_more)

pub returns : goal.returns
returns c = search (rules, filled_end)
