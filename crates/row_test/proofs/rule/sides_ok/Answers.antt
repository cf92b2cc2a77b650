-- `row_test::rule::sides_ok` meets its contract.
use Rattle.std.proofs.Common.{ap, arith, ◌∙◌}
use Rattle.std.proofs.lemmas.Bool.Decides.{nat_tests}
use Rattle.texts.specs.Coded.{arity_at}
use Rattle.table.specs.Layout.{agents_in}
use Rattle.row_test.specs.Row.{sides_within}
use Rattle.row_test.proofs.Verdict.{sides-fit-are, left_room, right_room}
use Rattle.row_test.proofs.rule.sides_ok.Goals as goal

pub standing_ok-requires : goal.standing_ok-requires
standing_ok-requires c = left_room _ _ _ _ _ c.args.fit.fits c.from.ensures c.arity_of.ensures c.from-left.ensures

pub standing_ok-requires-then-standing_ok : goal.standing_ok-requires-then-standing_ok
standing_ok-requires-then-standing_ok c = right_room _ _ _ _ _ c.args.fit.fits c.from-2.ensures c.arity_of-2.ensures c.from-right.ensures

pub returns-then-standing_ok-2 : goal.returns-then-standing_ok-2
returns-then-standing_ok-2 c =
    let e = sides-fit-are c.args.fit.table.now c.args.fit.row.now (sides_within c.gather-gathered.result) c.from-left.result c.from-right.result c.from-names.result c.from-cells.result
    c.gather-gathered.ensures.0
    (c.from-left.ensures ∙ (c.arity_of.ensures ∙ ap (arity_at (agents_in c.args.fit.table.now)) c.from.ensures))
    (c.from-right.ensures ∙ (c.arity_of-2.ensures ∙ ap (arity_at (agents_in c.args.fit.table.now)) c.from-2.ensures))
    c.from-names.ensures c.from-cells.ensures in
    grind (arith, nat_tests)

pub returns-else-standing_ok-2 : goal.returns-else-standing_ok-2
returns-else-standing_ok-2 c =
    let e = sides-fit-are c.args.fit.table.now c.args.fit.row.now (sides_within c.gather-gathered.result) c.from-left.result c.from-right.result c.from-names.result c.from-cells.result
    c.gather-gathered.ensures.0
    (c.from-left.ensures ∙ (c.arity_of.ensures ∙ ap (arity_at (agents_in c.args.fit.table.now)) c.from.ensures))
    (c.from-right.ensures ∙ (c.arity_of-2.ensures ∙ ap (arity_at (agents_in c.args.fit.table.now)) c.from-2.ensures))
    c.from-names.ensures c.from-cells.ensures in
    grind (arith, nat_tests)
