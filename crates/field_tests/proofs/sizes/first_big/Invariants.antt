-- `field_tests::sizes::first_big` meets its contract: the loop's invariant is `Sought`.
use Rattle.field_tests.proofs.Bounds.{Sought}
use Rattle.field_tests.proofs.sizes.first_big.Given as goal

abbrev pub invariant-loop-i : goal.invariant-loop-i
invariant-loop-i l = Sought l.field l.deep l.start l.i
