-- `wiring::end_of` meets its contract.
use Rattle.std.proofs.Common.{rules}
use Rattle.wiring.proofs.Wires.{end_bare, end_held, end_cell}
use Rattle.wiring.proofs.end_of.Goals as goal

pub returns-then-w-lt2 : goal.returns-then-w-lt2
returns-then-w-lt2 c = search (rules, end_bare)

pub returns-else-w-lt2 : goal.returns-else-w-lt2
returns-else-w-lt2 c = search (rules, end_held)

pub returns-in-Cell : goal.returns-in-Cell
returns-in-Cell c = search (rules, end_cell)
