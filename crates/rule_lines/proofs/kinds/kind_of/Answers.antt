-- `rule_lines::kinds::kind_of` meets its contract: a law for each way out.
use Rattle.std.proofs.Common.{rules}
use Rattle.rule_lines.proofs.Shapes.{kind-agent, kind-rule, kind_none}
use Rattle.rule_lines.proofs.kinds.kind_of.Goals as goal

pub returns-then-is_agent : goal.returns-then-is_agent
returns-then-is_agent c = search (rules, kind-agent)

pub returns-then-not-same : goal.returns-then-not-same
returns-then-not-same c = search (rules, kind_none)

pub returns : goal.returns
returns c = search (rules, kind-rule)
