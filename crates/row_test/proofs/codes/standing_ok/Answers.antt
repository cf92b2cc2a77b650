-- `row_test::codes::standing_ok` meets its contract.
use Rattle.std.specs.Prelude.{refl, eqb, map, ◌+◌}
use Rattle.std.proofs.Common.{rules, arith, ◌∙◌, tests}
use Rattle.std.proofs.lemmas.Iterator.{YieldsList-from_range}
use Rattle.std.proofs.lemmas.Iterator.Search.{all_from_yields_List}
use Rattle.parts.specs.Sides.{name, side}
use Rattle.texts.specs.TableTest.{tally, same_side}
use Rattle.row_test.proofs.Coding.{standing-range}
use Rattle.row_test.proofs.codes.standing_ok.Goals as goal

pub returns : goal.returns
returns c =
    let cs = map side c.args.codes.now in
    all_from_yields_List (λ i. eqb (tally (same_side (name (c.args.from + i))) cs) c.args.often) _ _ _ c.all.ensures.ran
    (YieldsList-from_range 0 c.args.n c.args.n refl (omega arith)) (λ x b q k. search (rules, tests))
    ∙ standing-range c.args.often cs c.args.from c.args.n
