-- `firing::taking::take_cells` meets its contract.
use Rattle.firing.proofs.Takes.{cell_more, cells-state, cells-frame}
use borrow.Author.Rules.{rules}
use Rattle.firing.proofs.taking.take_cells.Goals as goal

pub loop-m-preserved : goal.loop-m-preserved
loop-m-preserved c = search (rules, cell_more)

pub returns-clause-state_after : goal.returns-clause-state_after
returns-clause-state_after c = search (rules, cells-state)

pub returns-clause-frame_after : goal.returns-clause-frame_after
returns-clause-frame_after c = search (rules, cells-frame)
