-- `row_test::codes::counted` meets its contract.
use Rattle.std.specs.Prelude.{◌≡◌, eqb, ◌*◌}
use Rattle.std.proofs.Common.{rules, ◌∙◌}
use Rattle.std.specs.List.{count_by}
use Rattle.row_test.proofs.Coding.{tally-count}
use Rattle.row_test.proofs.codes.counted.Goals as goal

pub returns : goal.returns
returns c = let e : c.count.result ≡ count_by (λ b. eqb (2 * c.args.x) b) c.args.codes.now = search rules in e ∙ tally-count c.args.x c.args.codes.now
