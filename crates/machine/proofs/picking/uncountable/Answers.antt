-- `machine::picking::uncountable` meets its contract.
use Rattle.machine.proofs.Picks.{full-asked, not_full}
use Rattle.std.proofs.Common.{rules}
use Rattle.machine.proofs.picking.uncountable.Goals as goal

pub returns-then-loops-eq-LOOPS : goal.returns-then-loops-eq-LOOPS
returns-then-loops-eq-LOOPS c = search (rules, full-asked)

pub returns-else-loops-eq-LOOPS : goal.returns-else-loops-eq-LOOPS
returns-else-loops-eq-LOOPS c = search (rules, not_full)
