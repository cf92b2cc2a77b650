-- `table_test::agents::put_agents` meets its contract.
use Rattle.table_test.proofs.Agreed.{Copied}
use Rattle.table_test.proofs.agents.put_agents.Given as goal

abbrev pub invariant-loop-s : goal.invariant-loop-s
invariant-loop-s l = Copied l.table l.copy l.s
