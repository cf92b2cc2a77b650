-- `row_test::rule::template_ok` meets its contract.
use Rattle.std.proofs.Common.{ap, arith, ◌∙◌}
use Rattle.std.proofs.lemmas.Bool.Decides.{nat_tests}
use Rattle.table.specs.Layout.{agents_in}
use Rattle.row_test.specs.Row.{sizes_fit}
use Rattle.row_test.proofs.Verdict.{template-are}
use Rattle.row_test.proofs.rule.template_ok.Goals as goal

pub returns-then-cells_ok : goal.returns-then-cells_ok
returns-then-cells_ok c =
    let ags = agents_in c.args.table.now in
    let n = c.from-n.ensures ∙ c.symbol_count.ensures in
    let s = c.sizes_ok.ensures ∙ ap (λ i. sizes_fit i c.args.row.now) n in
    let e = template-are ags c.args.row.now in
    grind (arith, nat_tests)

pub returns-else-cells_ok : goal.returns-else-cells_ok
returns-else-cells_ok c =
    let ags = agents_in c.args.table.now in
    let n = c.from-n.ensures ∙ c.symbol_count.ensures in
    let s = c.sizes_ok.ensures ∙ ap (λ i. sizes_fit i c.args.row.now) n in
    let e = template-are ags c.args.row.now in
    grind (arith, nat_tests)
