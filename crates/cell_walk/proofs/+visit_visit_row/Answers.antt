-- `cell_walk::visit` and `cell_walk::visit_row` meet their contracts. The measure is the cells not yet met.
use Rattle.std.proofs.Common.{rules, arith}
use Rattle.sound.proofs.Places.{part_small}
use Rattle.cell_walk.proofs.Steps.{left_ready, left_more, left_stop, left_end}
use Rattle.cell_walk.proofs.Cells.{visit_name, visit_barred, visit_into, ready-entered, entered-fits, entered-falls}
use Rattle.cell_walk.proofs.Cells.{row_begin, row_cut, row-begins, row_gone, row-falls}
use Rattle.cell_walk.proofs.+visit_visit_row.Goals as goal

pub visit-returns-in-Name : goal.visit-returns-in-Name
visit-returns-in-Name t c = search (rules, visit_name)

pub visit-returns-in_default : goal.visit-returns-in_default
visit-returns-in_default t c = search (rules, visit_barred)

pub visit-visit_row-requires : goal.visit-visit_row-requires
visit-visit_row-requires t c = (search (rules, entered-falls), (search (rules, ready-entered), search (rules, entered-fits)))

pub visit-returns-in-Some : goal.visit-returns-in-Some
visit-returns-in-Some t c =
    visit_into _ _ _ _ _ _ c.requires c.in-Some.ensures _ _ _ _ _ _ _ c.from.ensures c.in-Cell.is c.from-n.ensures c.width_of.ensures c.from-from.ensures c.visit_row.ensures

pub visit_row-loop-i-init : goal.visit_row-loop-i-init
visit_row-loop-i-init t c = search (rules, row_begin)

pub visit_row-overflow_add-from : goal.visit_row-overflow_add-from
visit_row-overflow_add-from t c = omega (arith, part_small c.args.p)

pub visit_row-visit-requires : goal.visit_row-visit-requires
visit_row-visit-requires t c = (search (rules, row-falls), search (rules, left_ready))

pub visit_row-returns-then-not-visit : goal.visit_row-returns-then-not-visit
visit_row-returns-then-not-visit t c = search (rules, left_stop, row-begins)

pub visit_row-loop-i-preserved : goal.visit_row-loop-i-preserved
visit_row-loop-i-preserved t c = search (rules, left_more, row_cut)

pub visit_row-returns : goal.visit_row-returns
visit_row-returns t c = search (rules, left_end, row_gone)
