-- `table_test::whole::rules_ok` meets its contract.
use Rattle.std.proofs.Common.{rules}
use Rattle.table_test.proofs.Ruling.{ruling_none, ruling_below, ruling_room, ruling_more, ruling_not, ruling_end}
use Rattle.table_test.proofs.whole.rules_ok.Goals as goal

pub loop-k-init : goal.loop-k-init
loop-k-init c = search (rules, ruling_none)

pub rule_part-row-requires : goal.rule_part-row-requires
rule_part-row-requires c = search (rules, ruling_below)

pub rule_ok-requires : goal.rule_ok-requires
rule_ok-requires c = c.requires.fit

pub put_numbers-requires : goal.put_numbers-requires
put_numbers-requires c = ruling_room _ _ _ _ _ _ c.requires c.rule_count-k-end.ensures c.loop-k.invariant c.loop-k-test.true
    c.rule_part-row.ensures _ c.rule_ok.ensures (search rules)

pub loop-k-preserved : goal.loop-k-preserved
loop-k-preserved c = search (rules, ruling_more)

pub returns-then-not-rule_ok : goal.returns-then-not-rule_ok
returns-then-not-rule_ok c = ruling_not _ _ _ _ _ _ c.requires c.rule_count-k-end.ensures c.loop-k.invariant c.loop-k-test.true
    c.rule_part-row.ensures _ c.rule_ok.ensures _ (search rules)

pub returns : goal.returns
returns c = ruling_end _ _ _ _ c.rule_count-k-end.ensures c.loop-k.invariant c.loop-k-test.false
