-- `rules::line::judge_line` meets its contract: a law for each way out, and what the judge of a rule's line asks for.
use Rattle.std.specs.Prelude.{◌≡◌, Some}
use Rattle.std.proofs.Common.{rules, ap, ◌∙◌}
use Rattle.rule_lines.specs.declared.kinds.Kind.TheVariants.{Agent, Rule}
use Rattle.rules.proofs.Lines.{line-bad, line_none, line-agent, rule-stands, line-rule}
use Rattle.rules.proofs.line.judge_line.Goals as goal

pub returns-then-first_bad-line : goal.returns-then-first_bad-line
returns-then-first_bad-line c = search (rules, line-bad)

pub rule_line-requires : goal.rule_line-requires
rule_line-requires c =
    let z : c.kind_of.result ≡ Some Rule = c.in-Some-Rule.is ∙ ap Some c.in-Some-Rule.field-0-is in search (rules, rule-stands)

pub returns-in-None : goal.returns-in-None
returns-in-None c = search (rules, line_none)

pub returns-in-Some-Agent : goal.returns-in-Some-Agent
returns-in-Some-Agent c =
    let z : c.kind_of.result ≡ Some (Agent c.in-Some-Agent.arity) = c.in-Some-Agent.is ∙ ap Some c.in-Some-Agent.field-0-is in search (rules, line-agent)

pub returns-in-Some-Rule : goal.returns-in-Some-Rule
returns-in-Some-Rule c =
    let z : c.kind_of.result ≡ Some Rule = c.in-Some-Rule.is ∙ ap Some c.in-Some-Rule.field-0-is in search (rules, line-rule)
