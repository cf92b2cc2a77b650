-- `rule_tests::names::agent_over_names` meets its contract.
use Rattle.std.proofs.Common.{rules}
use Rattle.rule_tests.proofs.Ways.{over_one, over_none}
use Rattle.rule_tests.proofs.names.agent_over_names.Goals as goal

pub returns-then-declared : goal.returns-then-declared
returns-then-declared c = search (rules, over_one)

pub returns-else-declared : goal.returns-else-declared
returns-else-declared c = search (rules, over_none)
