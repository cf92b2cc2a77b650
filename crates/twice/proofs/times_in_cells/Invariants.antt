-- `twice::times_in_cells` meets its contract.
use Rattle.table.specs.Layout.{agents_in}
use Rattle.terms.specs.Sheet.{view}
use Rattle.twice.proofs.Counts.{Celled}
use Rattle.twice.proofs.times_in_cells.Given as goal

abbrev pub invariant-loop-c : goal.invariant-loop-c
invariant-loop-c l = Celled (agents_in l.table.bytes.now) (view l.sheet) l.x l.found l.c
