-- `firing::taking::take_names` meets its contract.
use Rattle.firing.proofs.Takes.{name_more, names-state, names-frame}
use borrow.Author.Rules.{rules}
use Rattle.firing.proofs.taking.take_names.Goals as goal

pub loop-i-preserved : goal.loop-i-preserved
loop-i-preserved c = search (rules, name_more)

pub returns-clause-state_after : goal.returns-clause-state_after
returns-clause-state_after c = search (rules, names-state)

pub returns-clause-frame_after : goal.returns-clause-frame_after
returns-clause-frame_after c = search (rules, names-frame)
