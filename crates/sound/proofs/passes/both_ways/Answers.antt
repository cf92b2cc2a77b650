-- `sound::passes::both_ways` meets its contract.
use Rattle.std.proofs.Common.{rules, tests}
use Rattle.model.specs.Test.{both_ways}
use Rattle.sound.specs.Clauses.{answers}
use Rattle.sound.proofs.Every.{all_below}
use Rattle.sound.proofs.passes.both_ways.Goals as goal

pub returns : goal.returns
unfolding both_ways answers
returns c = all_below _ _ c.all.ensures.ran (cc) (λ x b q k. search (rules, tests))
