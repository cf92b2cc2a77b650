-- `cell_walk::visit_bond` meets its contract.
use Rattle.std.proofs.Common.{rules}
use Rattle.cell_walk.proofs.Roots.{bond_none, bond-low, bond-high, bond_tied}
use Rattle.cell_walk.proofs.visit_bond.Goals as goal

pub returns-then-word-lt2 : goal.returns-then-word-lt2
returns-then-word-lt2 c = search (rules, bond_none)

pub returns-then-j-x : goal.returns-then-j-x
returns-then-j-x c = search (rules, bond-low)

pub returns-else-j-x : goal.returns-else-j-x
returns-else-j-x c = search (rules, bond-high)

pub returns-in-Cell : goal.returns-in-Cell
returns-in-Cell c = search (rules, bond_tied)
