-- `evaluation::ending::print_end` meets its contract.
use Rattle.evaluation.proofs.Ends.{lines_fit, end_read, end_long}
use borrow.Author.Rules.{rules}
use Rattle.evaluation.proofs.ending.print_end.Goals as goal

pub print_read-requires : goal.print_read-requires
print_read-requires c = search (rules, lines_fit)

pub returns-in-Ok : goal.returns-in-Ok
returns-in-Ok c = search (rules, end_read)

pub returns-in-Err : goal.returns-in-Err
returns-in-Err c = search (rules, end_long)
