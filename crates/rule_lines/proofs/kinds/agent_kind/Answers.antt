-- `rule_lines::kinds::agent_kind` meets its contract: a law for each way out.
use Rattle.std.proofs.Common.{rules}
use Rattle.rule_lines.proofs.Shapes.{agent-count, agent-number, agent_numberless}
use Rattle.rule_lines.proofs.kinds.agent_kind.Goals as goal

pub returns-then-field_count-ne3 : goal.returns-then-field_count-ne3
returns-then-field_count-ne3 c = search (rules, agent-count)

pub returns-in_err-decimal : goal.returns-in_err-decimal
returns-in_err-decimal c =
    agent_numberless _ _ c.field_count.ensures c.if-field_count-ne3.false _ c.field.ensures _ c.decimal.ensures c.in_err-decimal.was _ (search rules)

pub returns : goal.returns
returns c = agent-number _ _ c.field_count.ensures c.if-field_count-ne3.false _ c.field.ensures _ c.decimal.ensures _ c.in_ok-decimal.was
