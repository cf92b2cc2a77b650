-- `firing::building::fill_cells` meets its contract.
use Rattle.firing.proofs.Builds.{fill_more, fill_end}
use borrow.Author.Rules.{rules}
use Rattle.firing.proofs.building.fill_cells.Goals as goal

pub loop-m-preserved : goal.loop-m-preserved
loop-m-preserved c = search (rules, fill_more)

pub returns : goal.returns
returns c = search (rules, fill_end)
