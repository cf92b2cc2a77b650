-- `scan::numbers::value` meets its contract.
use Rattle.scan.proofs.Digits.{Valued}
use Rattle.scan.proofs.numbers.value.Given as goal

abbrev pub invariant-loop-b : goal.invariant-loop-b
invariant-loop-b l = Valued l.field l.v l.b-index
