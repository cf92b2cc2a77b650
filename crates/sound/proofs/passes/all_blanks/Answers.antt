-- `sound::passes::all_blanks` meets its contract.
use Rattle.std.proofs.Common.{rules, tests}
use Rattle.sound.proofs.Every.{all_below}
use Rattle.sound.proofs.passes.all_blanks.Goals as goal

pub returns : goal.returns
returns c = all_below _ _ c.all.ensures.ran (cc) (λ x b q k. search (rules, tests))
