-- `state::write` meets its contract.
use Rattle.state.proofs.Laws.{store_way}
use borrow.Author.Rules.{rules}
use Rattle.state.proofs.write.Goals as goal

pub returns : goal.returns
returns c = search (rules, store_way)
