-- `field_tests::spelling::spelled` meets its contract: the loop's invariant is `Ran`.
use Rattle.field_tests.proofs.Steps.{Ran}
use Rattle.field_tests.proofs.spelling.spelled.Given as goal

abbrev pub invariant-loop-i : goal.invariant-loop-i
invariant-loop-i l = Ran l.field l.s l.i
