-- `table_test::whole::rules_ok` meets its contract.
use Rattle.table_test.proofs.Ruling.{Ruling}
use Rattle.table_test.proofs.whole.rules_ok.Given as goal

abbrev pub invariant-loop-k : goal.invariant-loop-k
invariant-loop-k l = Ruling l.table l.copy l.k-end l.k
