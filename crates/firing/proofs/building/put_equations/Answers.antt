-- `firing::building::put_equations` meets its contract.
use Rattle.firing.proofs.Builds.{put_none, put_more}
use borrow.Author.Rules.{rules}
use Rattle.firing.proofs.building.put_equations.Goals as goal

pub loop-j-init : goal.loop-j-init
loop-j-init c = search (rules, put_none)

pub loop-j-preserved : goal.loop-j-preserved
loop-j-preserved c = search (rules, put_more)
