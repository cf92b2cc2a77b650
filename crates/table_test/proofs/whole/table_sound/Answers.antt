-- `table_test::whole::table_sound` meets its contract.
use Rattle.std.proofs.Common.{◌∙◌}
use Rattle.std.proofs.lemmas.Bool.Decides.{Decides-eqb}
use Rattle.std.proofs.lemmas.Slice.Eq.{slice_eq-Decides}
use Rattle.table_test.proofs.Ruling.{many-symbols, many-rules, bad-agents, bad-rules, all_told, rules_wait}
use Rattle.table_test.proofs.whole.table_sound.Goals as goal

pub returns-then-from-gt-SYMBOLS : goal.returns-then-from-gt-SYMBOLS
returns-then-from-gt-SYMBOLS c = many-symbols _ _ _ c.symbol_count.ensures c.from.ensures c.if-from-gt-SYMBOLS.true

pub returns-then-from-gt-RULES : goal.returns-then-from-gt-RULES
returns-then-from-gt-RULES c = many-rules _ _ (c.from-2.ensures ∙ c.rule_count.ensures) c.if-from-gt-RULES.true

pub returns-then-not-agents_ok : goal.returns-then-not-agents_ok
returns-then-not-agents_ok c = bad-agents _ _ c.agents_ok.ensures c.if-not-agents_ok.true

pub rules_ok-requires : goal.rules_ok-requires
rules_ok-requires c = rules_wait _ _ _ _ _ _ c.symbol_count.ensures c.from.ensures c.if-from-gt-SYMBOLS.false c.agents_ok.ensures c.if-not-agents_ok.false
    (c.from-2.ensures ∙ c.rule_count.ensures) c.if-from-gt-RULES.false c.put_agents.ensures

pub returns-then-rules_ok : goal.returns-then-rules_ok
returns-then-rules_ok c =
    let same = slice_eq-Decides Decides-eqb _ _ _ c.eq.ensures in
    all_told _ _ _ _ _ _ _ _ c.symbol_count.ensures c.from.ensures c.if-from-gt-SYMBOLS.false (c.from-2.ensures ∙ c.rule_count.ensures) c.if-from-gt-RULES.false
    c.agents_ok.ensures c.if-not-agents_ok.false c.rules_ok.ensures.0 c.if-rules_ok.true c.rules_ok.ensures.1 same.0 same.1

pub returns-else-rules_ok : goal.returns-else-rules_ok
returns-else-rules_ok c = bad-rules _ _ c.rules_ok.ensures.0 c.if-rules_ok.false
