-- `name_counts::times_in_cells` meets its contract.
use Rattle.parts.specs.Limits.{arity_max, cells_max}
use Rattle.state.specs.Layout.{view}
use Rattle.sound.specs.Lent.{under}
use Rattle.name_counts.specs.Totals.{inside}
use Rattle.name_counts.proofs.Sums.{Summing}
use Rattle.name_counts.proofs.times_in_cells.Given as goal

abbrev pub invariant-loop-c : goal.invariant-loop-c
invariant-loop-c l = Summing (inside (under l.lent.table.bytes.now) (view l.lent.state.now) l.x) cells_max arity_max l.found l.c
