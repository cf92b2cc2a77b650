-- `coding::making::nodes_of` meets its contract: the loop's invariant is `Filled`.
use Rattle.std.proofs.Common.{◌*◌}
use Rattle.parts.specs.Limits.{rule_cells_max, node_size}
use Rattle.terms.specs.Sheet.{view}
use Rattle.coding.specs.Made.{Filled, node_bytes}
use Rattle.coding.proofs.making.nodes_of.Given as goal

abbrev pub invariant-loop-p : goal.invariant-loop-p
invariant-loop-p l = Filled l.list (node_size * rule_cells_max) (node_bytes (view l.sheet)) l.p
