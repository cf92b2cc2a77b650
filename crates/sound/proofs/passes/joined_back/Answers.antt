-- `sound::passes::joined_back` meets its contract.
use Rattle.std.proofs.Common.{arith}
use Rattle.std.proofs.lemmas.Grind.{common_steps}
use Rattle.std.proofs.lemmas.Bool.Decides.{nat_tests}
use Rattle.sound.proofs.Ways.{joined_none}
use Rattle.sound.proofs.passes.joined_back.Goals as goal

pub returns-else-from-x : goal.returns-else-from-x
returns-else-from-x c = grind (arith, common_steps, nat_tests, joined_none)
