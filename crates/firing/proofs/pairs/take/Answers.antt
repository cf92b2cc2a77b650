-- `firing::pairs::take` meets its contract.
use Rattle.firing.proofs.Both.{cells_takeable, both-state, both-frame, both_right}
use borrow.Author.Rules.{rules}
use Rattle.firing.proofs.pairs.take.Goals as goal

pub take_cells-low_cell-requires : goal.take_cells-low_cell-requires
take_cells-low_cell-requires c = search (rules, cells_takeable)

pub returns-clause-frame_after : goal.returns-clause-frame_after
returns-clause-frame_after c = search (rules, both-frame)

pub returns-clause-state_after : goal.returns-clause-state_after
returns-clause-state_after c = search (rules, both-state)

pub returns-clause-right : goal.returns-clause-right
returns-clause-right c = search (rules, both_right)
