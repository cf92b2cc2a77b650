-- `table_test::agents::word_len` meets its contract.
use Rattle.std.specs.Prelude.{eqb}
use Rattle.std.proofs.Common.{rules, tests}
use Rattle.std.proofs.lemmas.Iterator.{YieldsList-from_slice}
use Rattle.std.proofs.lemmas.Iterator.Search.{position_from_yields_List}
use Rattle.table_test.proofs.Agreed.{first_zero}
use Rattle.table_test.proofs.agents.word_len.Goals as goal

pub returns : goal.returns
returns c =
    first_zero c.args.row.now
    (position_from_yields_List (λ b. eqb b 0) _ _ _ c.position.ensures.ran (YieldsList-from_slice c.args.row.now cc) (λ x b q k. search (rules, tests)))
    c.unwrap_or.ensures
