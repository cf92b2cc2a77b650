-- `field_tests::sizes::first_big` meets its contract: the loop's invariant is `Sought`.
use Rattle.std.proofs.Common.{rules}
use Rattle.field_tests.proofs.Bounds.{sought_more, sought_hit, sought_end}
use Rattle.field_tests.proofs.sizes.first_big.Goals as goal

pub returns-then-passes : goal.returns-then-passes
returns-then-passes c = search (rules, sought_hit)

pub loop-i-preserved : goal.loop-i-preserved
loop-i-preserved c = search (rules, sought_more)

pub returns : goal.returns
returns c = search (rules, sought_end)
