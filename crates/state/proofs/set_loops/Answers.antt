-- `state::set_loops` meets its contract.
use Rattle.state.proofs.Laws.{store-loops_way}
use borrow.Author.Rules.{rules}
use Rattle.state.proofs.set_loops.Goals as goal

pub returns : goal.returns
returns c = search (rules, store-loops_way)
