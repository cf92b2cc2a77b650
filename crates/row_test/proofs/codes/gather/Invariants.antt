-- `row_test::codes::gather` meets its contract.
use Rattle.row_test.proofs.Coding.{Gathering}
use Rattle.row_test.proofs.codes.gather.Given as goal

abbrev pub invariant-loop-c : goal.invariant-loop-c
invariant-loop-c l = Gathering l.fit.table.now l.fit.row.now l.list l.used l.c
