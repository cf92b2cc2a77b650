-- `row_test::codes::codes_ok` meets its contract.
use Rattle.std.proofs.Common.{rules, ◌∙◌, tests}
use Rattle.std.proofs.lemmas.Iterator.{YieldsList-from_slice}
use Rattle.std.proofs.lemmas.Iterator.Search.{all_from_yields_List}
use Rattle.row_test.specs.Row.{side_fits, code_fits}
use Rattle.row_test.proofs.Coding.{all_sides}
use Rattle.row_test.proofs.codes.codes_ok.Goals as goal

pub returns : goal.returns
returns c =
    all_from_yields_List (code_fits c.args.left c.args.right c.args.names c.args.cells) _ _ _ c.all.ensures.ran (YieldsList-from_slice c.args.codes.now cc) (λ x b q k. search (rules, tests))
    ∙ all_sides (side_fits c.args.left c.args.right c.args.names c.args.cells) c.args.codes.now
