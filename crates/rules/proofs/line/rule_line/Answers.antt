-- `rules::line::rule_line` meets its contract: a law for each way out, and what the judge of a rule asks for.
use Rattle.std.proofs.Common.{rules}
use Rattle.rules.proofs.Lines.{rule-misspelt, rule-meant, rule-goes_on}
use Rattle.rules.proofs.line.rule_line.Goals as goal

pub returns-then-misspelt : goal.returns-then-misspelt
returns-then-misspelt c = search (rules, rule-misspelt)

pub judge_rule-requires : goal.judge_rule-requires
judge_rule-requires c = rule-meant _ _ _ c.misspelt.ensures c.if-misspelt.false c.requires

pub returns : goal.returns
returns c = search (rules, rule-goes_on)
