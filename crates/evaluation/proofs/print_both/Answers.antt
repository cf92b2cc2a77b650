-- `evaluation::print_both` meets its contract.
use Rattle.evaluation.proofs.Texts.{rules-given, rules-accepted, rules-refused}
use borrow.Author.Rules.{rules}
use Rattle.evaluation.proofs.print_both.Goals as goal

pub print_net-requires : goal.print_net-requires
print_net-requires c = search (rules, rules-given)

pub returns-in-Ok : goal.returns-in-Ok
returns-in-Ok c = search (rules, rules-accepted)

pub returns-in-Err : goal.returns-in-Err
returns-in-Err c = search (rules, rules-refused)
