-- `state::pull_down` meets its contract.
use Rattle.state.proofs.Pulls.{down_way}
use borrow.Author.Rules.{rules}
use Rattle.state.proofs.pull_down.Goals as goal

pub returns : goal.returns
returns c = search (rules, down_way)
