-- `sound::passes::zeroed` meets its contract.
use Rattle.std.proofs.Common.{arith}
use Rattle.std.proofs.lemmas.Grind.{common_steps}
use Rattle.sound.proofs.Ways.{zeroed-parts}
use Rattle.sound.proofs.passes.zeroed.Goals as goal

pub returns-then-zero_past-2 : goal.returns-then-zero_past-2
returns-then-zero_past-2 c = grind (arith, common_steps, zeroed-parts)

pub returns-else-zero_past-2 : goal.returns-else-zero_past-2
returns-else-zero_past-2 c = grind (arith, common_steps, zeroed-parts)
