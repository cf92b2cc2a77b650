-- `turning::any_turn` meets its contract.
use Rattle.std.specs.Prelude.{get_or, refl}
use Rattle.std.proofs.Common.{arith, rules, tests}
use Rattle.std.proofs.lemmas.Iterator.{YieldsList-from_range}
use Rattle.std.proofs.lemmas.Iterator.Search.{any_from_yields_List}
use Rattle.texts.specs.TableTest.{turns_to}
use Rattle.table.specs.Layout.{equation_of}
use Rattle.table.specs.Laws.Chains.{any_range}
use Rattle.turning.proofs.any_turn.Goals as goal

pub returns : goal.returns
returns c =
    let row = c.args.row.now in
    any_range (turns_to (equation_of row c.args.i)) c.from.result (get_or row 2 0) (equation_of row) c.any.result c.from.ensures
    (any_from_yields_List (λ j. turns_to (equation_of row c.args.i) (equation_of row j)) _ _ _ c.any.ensures.ran
    (YieldsList-from_range 0 c.from.result c.from.result refl (omega arith)) (λ x b q k. search (rules, tests)))
