-- `stuck_pairs::unruled` meets its contract.
use Rattle.std.proofs.Common.{rules, ap, ◌∙◌, tests}
use Rattle.model.specs.State.{unpack}
use Rattle.model.specs.Sound.{mem_of}
use Rattle.model.specs.Test.{unruled}
use Rattle.state.specs.Layout.{view}
use Rattle.sound.specs.Lent.{under}
use Rattle.sound.proofs.Every.{all_below}
use Rattle.stuck_pairs.proofs.Stuck.{every_held}
use Rattle.stuck_pairs.proofs.unruled.Goals as goal

pub returns : goal.returns
returns c =
    let T = under c.args.lent.table.bytes.now in
    let s = view c.args.lent.state.now in
    all_below _ c.count.result c.all.ensures.ran (cc) (λ x b q k. search (rules, tests))
    ∙ every_held T s c.count.result ∙ ap (λ n. unruled T.rules (mem_of T s) (unpack n s.stuck.words)) c.count.ensures
