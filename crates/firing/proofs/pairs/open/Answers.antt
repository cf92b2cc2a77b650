-- `firing::pairs::open` meets its contract.
use Rattle.firing.proofs.Opening.{two_used, open_frame, open_right}
use borrow.Author.Rules.{rules}
use Rattle.firing.proofs.pairs.open.Goals as goal

pub overflow_sub-result : goal.overflow_sub-result
overflow_sub-result c = search (rules, two_used)

pub returns-clause-frame_after : goal.returns-clause-frame_after
returns-clause-frame_after c = search (rules, open_frame)

pub returns-clause-right : goal.returns-clause-right
returns-clause-right c = search (rules, open_right)
