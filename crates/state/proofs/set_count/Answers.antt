-- `state::set_count` meets its contract.
use Rattle.state.proofs.Laws.{store-count_way}
use borrow.Author.Rules.{rules}
use Rattle.state.proofs.set_count.Goals as goal

pub returns : goal.returns
returns c = search (rules, store-count_way)
