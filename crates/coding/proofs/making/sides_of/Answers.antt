-- `coding::making::sides_of` meets its contract: the loop's invariant is `Filled`.
use Rattle.std.proofs.Common.{rules}
use Rattle.coding.proofs.Made.{filled_none, filled_end, side_more}
use Rattle.coding.proofs.making.sides_of.Goals as goal

pub loop-i-init : goal.loop-i-init
loop-i-init c = search (rules, filled_none)

pub loop-i-preserved : goal.loop-i-preserved
loop-i-preserved c = search (rules, side_more)

pub returns : goal.returns
returns c = search (rules, filled_end)
