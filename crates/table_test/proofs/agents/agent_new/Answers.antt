-- `table_test::agents::agent_new` meets its contract.
use Rattle.std.specs.Prelude.{refl}
use Rattle.std.proofs.Common.{arith, rules, tests}
use Rattle.std.proofs.lemmas.Iterator.{YieldsList-from_range}
use Rattle.std.proofs.lemmas.Iterator.Search.{any_from_yields_List}
use Rattle.texts.specs.Bytes.{same}
use Rattle.table.specs.Layout.{agent_at}
use Rattle.table_test.proofs.Agreed.{other-range}
use Rattle.table_test.proofs.agents.agent_new.Goals as goal

pub returns : goal.returns
returns c =
    let w = c.args.table.now in
    other-range w c.args.s c.any.result
    (any_from_yields_List (λ j. same (agent_at w c.args.s).symbol (agent_at w j).symbol) _ _ _ c.any.ensures.ran
    (YieldsList-from_range 0 c.args.s c.args.s refl (omega arith)) (λ x b q k. search (rules, tests)))
