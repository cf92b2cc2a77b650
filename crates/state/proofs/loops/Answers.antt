-- `state::loops` meets its contract.
use Rattle.state.specs.Layout.{view}
use borrow.Author.Rules.{rules}
use Rattle.state.proofs.loops.Goals as goal

pub returns : goal.returns
unfolding view
returns c = search rules
