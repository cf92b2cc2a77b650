-- `table_test::whole::rule_ok` meets its contract.
use Rattle.std.proofs.Common.{arith}
use Rattle.std.proofs.lemmas.Bool.Decides.{nat_tests}
use Rattle.table_test.proofs.Ruling.{rule-symbols, rule_test}
use Rattle.table_test.proofs.whole.rule_ok.Goals as goal

pub has_rule-requires : goal.has_rule-requires
has_rule-requires c = rule-symbols _ _ _ c.requires c.template_ok.ensures c.if-template_ok.true

pub returns-then-template_ok : goal.returns-then-template_ok
returns-then-template_ok c = λ t q. let e = rule_test c.args.table.now c.args.row.now t.rules in let h = c.has_rule.ensures t q in grind (arith, nat_tests)

pub returns-else-template_ok : goal.returns-else-template_ok
returns-else-template_ok c = λ t q. let e = rule_test c.args.table.now c.args.row.now t.rules in grind (arith, nat_tests)
