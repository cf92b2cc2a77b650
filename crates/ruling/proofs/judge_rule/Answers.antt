-- `ruling::judge_rule` meets its contract.
use Rattle.std.proofs.Common.{refl, ap, rules}
use Rattle.parts.specs.Faults.{number_told}
use Rattle.ruling.proofs.Judging.{judged_err, coded_asks, settle_asks, judged_last}
use Rattle.ruling.proofs.judge_rule.Goals as goal

pub returns-in_err-tested : goal.returns-in_err-tested
returns-in_err-tested c = judged_err _ _ _ c.from_field-rest.ensures _ c.agents_part.ensures _
    c.rule_count.ensures _ c.tested.ensures c.tested.result c.from_residual.result _ refl c.in_err-tested.was (search rules)

pub coded-rule-requires : goal.coded-rule-requires
coded-rule-requires c = coded_asks _ _ _ c.from_field-rest.ensures _ c.agents_part.ensures _
    c.rule_count.ensures _ c.tested.ensures (ap number_told c.in_ok-tested.was) _ c.agents_part-2.ensures c.requires

pub settle-requires : goal.settle-requires
settle-requires c = settle_asks _ _ _ c.from_field-rest.ensures _ c.agents_part.ensures _
    c.rule_count.ensures _ c.tested.ensures (ap number_told c.in_ok-tested.was) _ c.agents_part-2.ensures _ c.coded-rule.ensures c.requires

pub returns : goal.returns
returns c = judged_last _ _ _ c.from_field-rest.ensures _ c.agents_part.ensures _
    c.rule_count.ensures _ c.tested.ensures (ap number_told c.in_ok-tested.was) _ c.agents_part-2.ensures _ c.coded-rule.ensures _ _ c.settle.ensures
