-- `wiring::same_or_joined` meets its contract.
use Rattle.std.proofs.Common.{rules}
use Rattle.wiring.proofs.Keeps.{same_loop, joined-loop}
use Rattle.wiring.proofs.same_or_joined.Goals as goal

pub returns-then-eq : goal.returns-then-eq
returns-then-eq c = search (rules, same_loop)

pub returns-else-eq : goal.returns-else-eq
returns-else-eq c = search (rules, joined-loop)
