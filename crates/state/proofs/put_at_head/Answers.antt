-- `state::put_at_head` meets its contract.
use Rattle.state.proofs.Piles.{put_way}
use borrow.Author.Rules.{rules}
use Rattle.state.proofs.put_at_head.Goals as goal

pub returns : goal.returns
returns c = search (rules, put_way)
