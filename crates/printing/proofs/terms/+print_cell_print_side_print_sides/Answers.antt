-- `printing::terms::print_side`, `print_cell` and `print_sides` meet their contracts. The measure is the cells left.
use Rattle.std.proofs.Common.{rules}
use Rattle.printing.proofs.Agents.{cell_end, table-usable, may_begin, args_fall, args-ready, args_row, bracket_room, cell_way}
use Rattle.printing.proofs.Ways.{ready_less, leaf_one, leaf_left, leaf_right, cell-live, side-numbered, side_one, side_two, side_as_cell}
use Rattle.printing.proofs.Ways.{sides_end, first_live, first_ready, first_falls, rest-ready, rest-row, rest-falls, next_fits, sides_way}
use Rattle.printing.proofs.terms.+print_cell_print_side_print_sides.Goals as goal

pub print_cell-returns-then-k-eq0 : goal.print_cell-returns-then-k-eq0
print_cell-returns-then-k-eq0 t c = search (rules, cell_end)

pub print_cell-invariant_of-width_of : goal.print_cell-invariant_of-width_of
print_cell-invariant_of-width_of t c = search (rules, table-usable)

pub print_cell-begin_cell-inner-requires : goal.print_cell-begin_cell-inner-requires
print_cell-begin_cell-inner-requires t c = search (rules, may_begin)

pub print_cell-print_sides-r-requires : goal.print_cell-print_sides-r-requires
print_cell-print_sides-r-requires t c =
    rw (c.from-n.ensures, c.from-from.ensures) (search (rules, args_fall), (search (rules, args-ready), search (rules, args_row)))

pub print_cell-end_cell-requires : goal.print_cell-end_cell-requires
print_cell-end_cell-requires t c =
    let h = rw (c.from-n.ensures, c.from-from.ensures) at c.print_sides-r.ensures in
    bracket_room _ _ _ _ _ c.args.lent.sound c.requires.0 c.requires.1 _ c.symbol_word-word.ensures c.if-k-eq0.false _ c.width_of.ensures _ _ _ c.begin_cell-inner.ensures _ _ _ h

pub print_cell-returns : goal.print_cell-returns
print_cell-returns t c =
    let h = rw (c.from-n.ensures, c.from-from.ensures) at c.print_sides-r.ensures in
    let u = rw c.from-n.ensures at c.end_cell.ensures in
    cell_way _ _ _ _ _ c.args.lent.sound c.requires.0 c.requires.1 _ c.symbol_word-word.ensures c.if-k-eq0.false _ c.width_of.ensures _ _ _ c.begin_cell-inner.ensures _ _ _ h _ _ u

pub print_side-returns-in-Numbered : goal.print_side-returns-in-Numbered
print_side-returns-in-Numbered t c = search (rules, side-numbered)

pub print_side-name_one-requires : goal.print_side-name_one-requires
print_side-name_one-requires t c = search (rules, leaf_one)

pub print_side-returns-in-Bare : goal.print_side-returns-in-Bare
print_side-returns-in-Bare t c = search (rules, side_one)

pub print_side-name_two-requires : goal.print_side-name_two-requires
print_side-name_two-requires t c = (search (rules, leaf_left), search (rules, leaf_right))

pub print_side-returns-in-Joined : goal.print_side-returns-in-Joined
print_side-returns-in-Joined t c = search (rules, side_two)

pub print_side-print_cell-requires : goal.print_side-print_cell-requires
print_side-print_cell-requires t c = (search rules, (search (rules, ready_less), search (rules, cell-live)))

pub print_side-returns-in-Cell : goal.print_side-returns-in-Cell
print_side-returns-in-Cell t c = search (rules, side_as_cell)

pub print_sides-returns-then-n-eq0 : goal.print_sides-returns-then-n-eq0
print_sides-returns-then-n-eq0 t c = search (rules, sides_end)

pub print_sides-print_side-done-requires : goal.print_sides-print_side-done-requires
print_sides-print_side-done-requires t c = (search (rules, first_falls), (search (rules, first_ready), search (rules, first_live)))

pub print_sides-overflow_add-from : goal.print_sides-overflow_add-from
print_sides-overflow_add-from t c = search (rules, next_fits)

pub print_sides-print_sides-requires : goal.print_sides-print_sides-requires
print_sides-print_sides-requires t c = (search (rules, rest-falls), (rest-ready _ _ c.args.lent.sound _ _ _ _ _ c.requires.0 c.requires.1 c.if-n-eq0.false _ c.read-word.ensures _ _ _ _ c.mark-begun.ensures _ _ _ c.print_side-done.ensures, search (rules, rest-row)))

pub print_sides-returns : goal.print_sides-returns
print_sides-returns t c = sides_way _ _ c.args.lent.sound _ _ _ _ _ c.requires.0 c.requires.1 c.if-n-eq0.false _ c.read-word.ensures _ _ _ _ c.mark-begun.ensures _ _ _ c.print_side-done.ensures _ _ _ _ c.print_sides.ensures
