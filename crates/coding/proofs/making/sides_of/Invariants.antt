-- `coding::making::sides_of` meets its contract: the loop's invariant is `Filled`.
use Rattle.std.proofs.Common.{◌*◌}
use Rattle.parts.specs.Limits.{rule_equations_max}
use Rattle.coding.specs.Made.{Filled, side_bytes}
use Rattle.coding.proofs.making.sides_of.Given as goal

abbrev pub invariant-loop-i : goal.invariant-loop-i
invariant-loop-i l = Filled l.list (2 * rule_equations_max) (side_bytes l.codes) l.i
