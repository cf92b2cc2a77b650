-- `cell_walk::reached` meets its contract.
use Rattle.std.proofs.Common.{rules}
use Rattle.cell_walk.proofs.Reach.{ready_new, reached-lost, reached-saw}
use Rattle.cell_walk.proofs.reached.Goals as goal

pub visit_all-requires : goal.visit_all-requires
visit_all-requires c = search (rules, ready_new)

pub returns-then-visit_all : goal.returns-then-visit_all
returns-then-visit_all c = search (rules, reached-saw)

pub returns-else-visit_all : goal.returns-else-visit_all
returns-else-visit_all c = search (rules, reached-lost)
