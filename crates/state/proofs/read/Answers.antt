-- `state::read` meets its contract.
use Rattle.state.proofs.Laws.{fetch_way}
use borrow.Author.Rules.{rules}
use Rattle.state.proofs.read.Goals as goal

pub returns : goal.returns
returns c = search (rules, fetch_way)
