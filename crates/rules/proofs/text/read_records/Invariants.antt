-- `rules::text::read_records` meets its contract: the loop's invariant is `Reading`.
use Prim.Native.Nat.{◌-◌}
use lib.ListN.{length}
use Rattle.rules.proofs.Reading.{Reading}
use Rattle.rules.proofs.text.read_records.Given as goal

abbrev pub invariant-lines : goal.invariant-lines
invariant-lines l = Reading l.text l.from l.table l.at l.k

abbrev pub decreases-lines : goal.decreases-lines
decreases-lines l = length l.text - l.at
