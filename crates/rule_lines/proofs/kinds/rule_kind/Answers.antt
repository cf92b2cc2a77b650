-- `rule_lines::kinds::rule_kind` meets its contract: a law for each way out.
use Rattle.std.proofs.Common.{rules}
use Rattle.rule_lines.proofs.Shapes.{rule-short, rule-odd, rule-paired}
use Rattle.rule_lines.proofs.kinds.rule_kind.Goals as goal
use Rattle.rule_lines.proofs.kinds.rule_kind.Goals.{then-n-lt3-via-then-n-lt3, then-n-lt3-via-else-n-lt3+then-n-eq0}

pub returns-then-n-lt3 : goal.returns-then-n-lt3
returns-then-n-lt3 c = elim c.then-n-lt3.branch [
  | then-n-lt3-via-then-n-lt3 w ↦ search (rules, rule-short)
  | then-n-lt3-via-else-n-lt3+then-n-eq0 w ↦ search (rules, rule-odd)
]

pub returns : goal.returns
returns c = search (rules, rule-paired)
