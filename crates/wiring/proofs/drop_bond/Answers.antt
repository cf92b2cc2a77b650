-- `wiring::drop_bond` meets its contract.
use Rattle.std.proofs.Common.{rules}
use Rattle.wiring.proofs.Wires.{name-small, held_small, wirable-set, drop-bare, drop-join, drop-tie, drop-cell}
use Rattle.wiring.proofs.drop_bond.Goals as goal

pub returns-in_default : goal.returns-in_default
returns-in_default c = search (rules, drop-cell)

pub returns-then-w-lt2 : goal.returns-then-w-lt2
returns-then-w-lt2 c = search (rules, drop-bare)

pub set_name-requires : goal.set_name-requires
set_name-requires c = search (rules, name-small, held_small, wirable-set)

pub returns-in-Name-from : goal.returns-in-Name-from
returns-in-Name-from c = search (rules, drop-join, drop-tie)

pub returns-in-Cell : goal.returns-in-Cell
returns-in-Cell c = search (rules, drop-join, drop-tie)
