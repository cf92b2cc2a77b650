-- `firing::building::fill_cell` meets its contract.
use Rattle.firing.proofs.Builds.{argue_none, argue_more, argue_end}
use borrow.Author.Rules.{rules}
use Rattle.firing.proofs.building.fill_cell.Goals as goal

pub loop-j-init : goal.loop-j-init
loop-j-init c = search (rules, argue_none)

pub loop-j-preserved : goal.loop-j-preserved
loop-j-preserved c = search (rules, argue_more)

pub returns : goal.returns
returns c = search (rules, argue_end)
