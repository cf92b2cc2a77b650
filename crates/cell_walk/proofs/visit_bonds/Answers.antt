-- `cell_walk::visit_bonds` meets its contract.
use Rattle.std.proofs.Common.{rules}
use Rattle.cell_walk.proofs.Steps.{left_all, left_ready, left_more, left_stop, left_end}
use Rattle.cell_walk.proofs.Roots.{bonds-cut, bonds_begin, bonds_gone}
use Rattle.cell_walk.proofs.visit_bonds.Goals as goal

pub loop-x-init : goal.loop-x-init
loop-x-init c = search (rules, left_all)

pub visit_bond-requires : goal.visit_bond-requires
visit_bond-requires c = search (rules, left_ready)

pub returns-then-not-visit_bond : goal.returns-then-not-visit_bond
returns-then-not-visit_bond c = search (rules, left_stop, bonds_begin)

pub loop-x-preserved : goal.loop-x-preserved
loop-x-preserved c = search (rules, left_more, bonds-cut)

pub returns : goal.returns
returns c = search (rules, left_end, bonds_gone)
