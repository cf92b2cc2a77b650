-- `row_test::rule::cells_ok` meets its contract.
use Rattle.std.specs.Prelude.{refl}
use Rattle.std.proofs.Common.{rules, arith, tests}
use Rattle.std.proofs.lemmas.Iterator.{YieldsList-from_range}
use Rattle.std.proofs.lemmas.Iterator.Search.{all_from_yields_List}
use Rattle.row_test.proofs.Verdict.{Declared, cells-range}
use Rattle.row_test.proofs.rule.cells_ok.Goals as goal

pub returns : goal.returns
returns c =
    cells-range c.args.n c.from.result c.args.row.now c.all.result c.from.ensures
    (all_from_yields_List (Declared c.args.n c.args.row.now) _ _ _ c.all.ensures.ran (YieldsList-from_range 0 c.from.result c.from.result refl (omega arith)) (λ x b q k. search (rules, tests)))
