-- `name_counts::twice` meets its contract.
use Rattle.std.proofs.Common.{rules, ◌∙◌, tests}
use Rattle.parts.specs.Limits.{names_max}
use Rattle.state.specs.Layout.{view}
use Rattle.sound.proofs.Every.{all_below}
use Rattle.name_counts.proofs.Counts.{twice_way}
use Rattle.name_counts.proofs.twice.Goals as goal

pub returns : goal.returns
returns c =
    all_below _ names_max c.all.ensures.ran (cc) (λ x b q k. search (rules, tests))
    ∙ twice_way c.args.lent.table.bytes.now (view c.args.lent.state.now) (search rules)
