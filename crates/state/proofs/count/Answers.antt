-- `state::count` meets its contract.
use Rattle.state.proofs.Laws.{fetch_count_way}
use borrow.Author.Rules.{rules}
use Rattle.state.proofs.count.Goals as goal

pub returns : goal.returns
returns c = search (rules, fetch_count_way)
