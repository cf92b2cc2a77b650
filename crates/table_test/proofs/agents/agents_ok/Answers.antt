-- `table_test::agents::agents_ok` meets its contract.
use Rattle.std.specs.Prelude.{refl}
use Rattle.std.proofs.Common.{arith, rules, ◌∙◌, tests}
use Rattle.std.proofs.lemmas.Iterator.{YieldsList-from_range}
use Rattle.std.proofs.lemmas.Iterator.Search.{all_from_yields_List}
use Rattle.table_test.proofs.Agreed.{Agreed, agents-range}
use Rattle.table_test.proofs.agents.agents_ok.Goals as goal

pub returns : goal.returns
returns c =
    agents-range c.args.table.now c.from.result c.all.result (c.from.ensures ∙ c.symbol_count.ensures)
    (all_from_yields_List (Agreed c.args.table.now) _ _ _ c.all.ensures.ran
    (YieldsList-from_range 0 c.from.result c.from.result refl (omega arith)) (λ x b q k. search (rules, tests)))
