-- `twice::first_loose` meets its contract.
use Rattle.table.specs.Layout.{agents_in}
use Rattle.terms.specs.Sheet.{view}
use Rattle.twice.specs.Counting.{loose_on}
use Rattle.twice.proofs.Counts.{Seeking}
use Rattle.twice.proofs.first_loose.Given as goal

abbrev pub invariant-loop-x : goal.invariant-loop-x
invariant-loop-x l = Seeking (loose_on (agents_in l.table.bytes.now) (view l.sheet) l.codes l.n) (view l.sheet).names l.x
