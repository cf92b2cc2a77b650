-- `cell_walk::all_met` meets its contract.
use Rattle.std.proofs.Common.{rules, tests}
use Rattle.sound.proofs.Every.{all_below}
use Rattle.cell_walk.proofs.all_met.Goals as goal

pub returns : goal.returns
returns c = all_below _ _ c.all.ensures.ran (cc) (λ x b q k. search (rules, tests))
