-- `rule_tests::names::ill_formed` meets its contract.
use Rattle.std.proofs.Common.{rules}
use Rattle.rule_tests.proofs.Ways.{ill_first, ill_second, ill_words}
use Rattle.rule_tests.proofs.names.ill_formed.Goals as goal

pub returns-then-not-agent_over_names : goal.returns-then-not-agent_over_names
returns-then-not-agent_over_names c = search (rules, ill_first)

pub returns-then-not-agent_over_names-2 : goal.returns-then-not-agent_over_names-2
returns-then-not-agent_over_names-2 c = search (rules, ill_second)

pub returns-else-not-agent_over_names-2 : goal.returns-else-not-agent_over_names-2
returns-else-not-agent_over_names-2 c = search (rules, ill_words)
