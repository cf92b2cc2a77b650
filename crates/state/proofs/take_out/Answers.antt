-- `state::take_out` meets its contract.
use Rattle.state.proofs.Pulls.{pull_more, pull_end}
use borrow.Author.Rules.{rules}
use Rattle.state.proofs.take_out.Goals as goal

pub loop-j-preserved : goal.loop-j-preserved
loop-j-preserved c = search (rules, pull_more)

pub returns : goal.returns
returns c = search (rules, pull_end)
