-- `loading::write_cells` meets its contract.
use Rattle.state.specs.Layout.{view}
use Rattle.table.specs.Layout.{agents_in}
use Rattle.terms.specs.Sheet as Sheets
use Rattle.loading.proofs.Lays.{Celling}
use Rattle.loading.proofs.write_cells.Given as goal

abbrev pub invariant-loop-c : goal.invariant-loop-c
invariant-loop-c l = Celling (agents_in l.table.bytes.now) (Sheets.view l.sheet) (view l.initial.state) (view l.state) l.c
