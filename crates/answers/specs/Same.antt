-- What two ends of one net have in common.
use Rattle.std.specs.Prelude.{◌≡◌}
use Rattle.answers.specs.Answer.{Answer}

-- Two answers are the same tonnage: the same interface, and as many stuck pairs, loops and agents in the knot. The
-- `eq` lines can differ, as the order of the stuck pairs and the numbers first met in them depend on the order of
-- steps.
pub record Same (A B : Answer) : Type 0 where
  pub face : A.face ≡ B.face
  pub stuck : A.stuck ≡ B.stuck
  pub loops : A.loops ≡ B.loops
  pub knot : A.knot ≡ B.knot
