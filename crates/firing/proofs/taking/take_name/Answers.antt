-- `firing::taking::take_name` meets its contract.
use Rattle.firing.proofs.Takes.{name-short, name-inside, name_doubled, name-past}
use borrow.Author.Rules.{rules}
use Rattle.firing.proofs.taking.take_name.Goals as goal

pub overflow_cast-x : goal.overflow_cast-x
overflow_cast-x c = search (rules, name-short)

pub set_name_word-requires : goal.set_name_word-requires
set_name_word-requires c = search (rules, name-inside)

pub overflow_mul-frame : goal.overflow_mul-frame
overflow_mul-frame c = search (rules, name_doubled)

pub overflow_add-result : goal.overflow_add-result
overflow_add-result c = search (rules, name-past)
