-- `firing::taking::take_cell` meets its contract.
use Rattle.firing.proofs.Takes.{cell-short, cell-inside, cell_doubled, cell-coded, cell-past}
use borrow.Author.Rules.{rules}
use Rattle.firing.proofs.taking.take_cell.Goals as goal

pub overflow_cast-c : goal.overflow_cast-c
overflow_cast-c c = search (rules, cell-short)

pub set_symbol_word-requires : goal.set_symbol_word-requires
set_symbol_word-requires c = search (rules, cell-inside)

pub overflow_mul-frame : goal.overflow_mul-frame
overflow_mul-frame c = search (rules, cell_doubled)

pub overflow_add-frame : goal.overflow_add-frame
overflow_add-frame c = search (rules, cell-coded)

pub overflow_add-result : goal.overflow_add-result
overflow_add-result c = search (rules, cell-past)
