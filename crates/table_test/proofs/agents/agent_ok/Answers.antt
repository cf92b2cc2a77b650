-- `table_test::agents::agent_ok` meets its contract.
use Rattle.std.proofs.Common.{arith}
use Rattle.std.proofs.lemmas.Bool.Decides.{nat_tests}
use Rattle.table_test.proofs.Agreed.{agent-test}
use Rattle.table_test.proofs.agents.agent_ok.Goals as goal

pub returns-then-symbol : goal.returns-then-symbol
returns-then-symbol c = let e = agent-test c.args.table.now c.args.s c.letters.result.now c.letters.ensures in grind (arith, nat_tests)

pub returns-else-symbol : goal.returns-else-symbol
returns-else-symbol c = let e = agent-test c.args.table.now c.args.s c.letters.result.now c.letters.ensures in grind (arith, nat_tests)
