-- `evaluation::print_net` meets its contract.
use Rattle.evaluation.proofs.Texts.{net-sound, net-accepted, net-refused}
use borrow.Author.Rules.{rules}
use Rattle.evaluation.proofs.print_net.Goals as goal

pub print_run-requires : goal.print_run-requires
print_run-requires c = search (rules, net-sound)

pub returns-in-Ok : goal.returns-in-Ok
returns-in-Ok c = search (rules, net-accepted)

pub returns-in-Err : goal.returns-in-Err
returns-in-Err c = search (rules, net-refused)
