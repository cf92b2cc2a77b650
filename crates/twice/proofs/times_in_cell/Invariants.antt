-- `twice::times_in_cell` meets its contract.
use Prim.Native.Nat.{◌+◌, ◌*◌}
use lib.ListN.{get_or}
use Rattle.parts.specs.Limits.{arity_max}
use Rattle.terms.specs.Sheet.{view}
use Rattle.twice.proofs.Counts.{Tallying}
use Rattle.twice.proofs.times_in_cell.Given as goal

abbrev pub invariant-loop-k : goal.invariant-loop-k
invariant-loop-k l = Tallying l.x (λ j. get_or (view l.sheet).arguments (arity_max * l.c.0 + j) 0) l.found l.k
