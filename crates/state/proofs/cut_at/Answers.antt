-- `state::cut_at` meets its contract.
use Rattle.state.proofs.Pulls.{cut_way}
use borrow.Author.Rules.{rules}
use Rattle.state.proofs.cut_at.Goals as goal

pub returns : goal.returns
returns c = search (rules, cut_way)
