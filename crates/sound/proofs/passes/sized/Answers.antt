-- `sound::passes::sized` meets its contract.
use Rattle.std.proofs.Common.{arith}
use Rattle.std.proofs.lemmas.Grind.{common_steps}
use Rattle.sound.proofs.Sizes.{counts_decide}
use Rattle.sound.proofs.passes.sized.Goals as goal

pub returns-then-from-le-FACE : goal.returns-then-from-le-FACE
returns-then-from-le-FACE c = grind (arith, common_steps, counts_decide)

pub returns-else-from-le-FACE : goal.returns-else-from-le-FACE
returns-else-from-le-FACE c = grind (arith, common_steps, counts_decide)
