-- `turning::two_sided` meets its contract.
use Rattle.std.specs.Prelude.{get_or, refl}
use Rattle.std.proofs.Common.{arith, rules, tests}
use Rattle.std.proofs.lemmas.Bool.Decides.{nat_tests}
use Rattle.std.proofs.lemmas.Iterator.{YieldsList-from_range}
use Rattle.std.proofs.lemmas.Iterator.Search.{all_from_yields_List}
use Rattle.texts.specs.Bytes.{any}
use Rattle.texts.specs.TableTest.{turns_to}
use Rattle.table.specs.Lists.{tab}
use Rattle.table.specs.Layout.{equation_of}
use Rattle.table.specs.Laws.Chains.{all_range}
use Rattle.turning.proofs.Turned.{sided}
use Rattle.turning.proofs.two_sided.Goals as goal

pub returns-then-row-eq0-2 : goal.returns-then-row-eq0-2
returns-then-row-eq0-2 c = λ ags.
    let row = c.args.row.now in
    let e = sided ags row in
    let a =
    all_range (λ p. any (turns_to p) (tab (get_or row 2 0) (equation_of row))) c.from.result (get_or row 2 0) (equation_of row) c.all.result c.from.ensures
    (all_from_yields_List (λ i. any (turns_to (equation_of row i)) (tab (get_or row 2 0) (equation_of row))) _ _ _ c.all.ensures.ran
    (YieldsList-from_range 0 c.from.result c.from.result refl (omega arith)) (λ x b q k. search (rules, tests))) in
    grind (arith, nat_tests)

pub returns-else-row-eq0-2 : goal.returns-else-row-eq0-2
returns-else-row-eq0-2 c = λ ags. let e = sided ags c.args.row.now in grind (arith, nat_tests)
