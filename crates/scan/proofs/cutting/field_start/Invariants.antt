-- `scan::cutting::field_start` meets its contract.
use Rattle.scan.proofs.Cuts.{Started}
use Rattle.scan.proofs.cutting.field_start.Given as goal

abbrev pub invariant-loop-i : goal.invariant-loop-i
invariant-loop-i l = Started l.line l.k l.left l.i
