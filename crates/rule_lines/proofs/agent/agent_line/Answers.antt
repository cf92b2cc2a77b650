-- `rule_lines::agent::agent_line` meets its contract: a law for each way out.
use Rattle.std.proofs.Common.{rules}
use Rattle.rule_lines.proofs.Agents.{agent-misspelt, agent-goes_on}
use Rattle.rule_lines.proofs.agent.agent_line.Goals as goal

pub returns-then-not-symbol : goal.returns-then-not-symbol
returns-then-not-symbol c = search (rules, agent-misspelt)

pub returns : goal.returns
returns c = search (rules, agent-goes_on)
