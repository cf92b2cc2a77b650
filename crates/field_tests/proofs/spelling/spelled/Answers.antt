-- `field_tests::spelling::spelled` meets its contract: the loop's invariant is `Ran`.
use Rattle.std.proofs.Common.{rules}
use Rattle.field_tests.proofs.Steps.{ran_more, ran-wrong, ran_right, ran-short}
use Rattle.field_tests.proofs.spelling.spelled.Goals as goal

pub returns-then-lost : goal.returns-then-lost
returns-then-lost c = search (rules, ran-wrong)

pub loop-i-preserved : goal.loop-i-preserved
loop-i-preserved c = search (rules, ran_more)

pub returns-then-done : goal.returns-then-done
returns-then-done c = search (rules, ran_right)

pub returns-else-done : goal.returns-else-done
returns-else-done c = search (rules, ran-short)
