-- `state::free_cell` meets its contract.
use Rattle.state.proofs.Piles.{free_way}
use borrow.Author.Rules.{rules}
use Rattle.state.proofs.free_cell.Goals as goal

pub returns : goal.returns
returns c = search (rules, free_way)
