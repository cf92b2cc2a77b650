-- `printing::terms::print_side`, `print_cell` and `print_sides` meet their contracts. The measure is the cells left.
use Rattle.std.proofs.Common.{◌+◌, ◌*◌}
use Rattle.parts.specs.Limits.{arity_max}
use Rattle.printing.proofs.terms.+print_cell_print_side_print_sides.Given as goal

abbrev pub decreases-print_cell : goal.decreases-print_cell
decreases-print_cell l = (3 + arity_max) * l.k.left

abbrev pub decreases-print_side : goal.decreases-print_side
decreases-print_side l = (3 + arity_max) * l.k.left + 1

abbrev pub decreases-print_sides : goal.decreases-print_sides
decreases-print_sides l = (3 + arity_max) * l.k.left + 2 + l.n
