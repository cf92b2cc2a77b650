-- `evaluation::ending::print_run` meets its contract.
use Rattle.evaluation.proofs.Runs.{stop-ready, stop-ended, stop-paused, stop-noroom, not_refused}
use borrow.Author.Rules.{rules}
use Rattle.evaluation.proofs.ending.print_run.Goals as goal

pub print_end-requires : goal.print_end-requires
print_end-requires c = search (rules, stop-ready)

pub returns-in-Ended : goal.returns-in-Ended
returns-in-Ended c = search (rules, stop-ended)

pub returns-in-Paused : goal.returns-in-Paused
returns-in-Paused c = search (rules, stop-paused)

pub returns-in-NoRoom : goal.returns-in-NoRoom
returns-in-NoRoom c = search (rules, stop-noroom)

pub returns-in-Err : goal.returns-in-Err
returns-in-Err c = search (rules, not_refused)
