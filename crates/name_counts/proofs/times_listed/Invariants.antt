-- `name_counts::times_listed` meets its contract.
use Rattle.name_counts.proofs.Sums.{Summing}
use Rattle.name_counts.specs.Totals.{mark}
use Rattle.state.specs.Layout.{view}
use Rattle.state.specs.Places.{words}
use Rattle.name_counts.proofs.times_listed.Given as goal

abbrev pub invariant-loop-i : goal.invariant-loop-i
invariant-loop-i l = Summing (mark l.x (words l.p (view l.state)) 0) l.n 1 l.found l.i
