-- `cell_walk::visit_all` meets its contract.
use Rattle.std.specs.Prelude.{◌≡◌, ◌++◌}
use Rattle.model.specs.State.{unpack}
use Rattle.model.specs.Reading.{bonds}
use Rattle.model.specs.Test.{sides_of}
use Rattle.state.specs.Layout.{view}
use Rattle.cell_walk.specs.Walks.{Walked, row}
use Rattle.cell_walk.proofs.Roots.{more_walked, no_more, roots_walked}
use Rattle.cell_walk.proofs.visit_all.Goals as goal
use Rattle.cell_walk.proofs.visit_all.Goals.{then-visit_row, else-visit_row, then-visit_pile, else-visit_pile}

pub returns-then-visit_bonds : goal.returns-then-visit_bonds
returns-then-visit_bonds c =
    let w = c.args.lent.table.bytes.now in
    let s = view c.args.lent.state.now in
    let f : c.from-faces.result ≡ s.face.used = cc in
    let a : c.from-waits.result ≡ s.waiting.used = cc in
    let k : c.from-stucks.result ≡ s.stuck.used = cc in
    let face = row s.face.words 0 c.from-faces.result in
    let waits = sides_of (unpack c.from-waits.result s.waiting.words) in
    let ties = sides_of (bonds 0 s.names) in
    let stucks = sides_of (unpack c.from-stucks.result s.stuck.words) in
    let g : Walked w s (face ++ waits) c.args.seen.now c.if-visit_row.value c.if-visit_row.seen =
    elim c.if-visit_row.branch [
      | then-visit_row x ↦ rw (x.value-is, x.seen-is) (more_walked w s waits c.visit_row.ensures x.if-visit_row.true x.visit_pile.ensures)
      | else-visit_row x ↦ rw (x.value-is, x.seen-is) (no_more w s waits c.visit_row.ensures x.if-visit_row.false)
    ] in
    let h : Walked w s ((face ++ waits) ++ ties) c.args.seen.now c.if-visit_pile.value c.if-visit_pile.seen =
    elim c.if-visit_pile.branch [
      | then-visit_pile x ↦ rw (x.value-is, x.seen-is) (more_walked w s ties g x.if-visit_pile.true x.visit_bonds.ensures)
      | else-visit_pile x ↦ rw (x.value-is, x.seen-is) (no_more w s ties g x.if-visit_pile.false)
    ] in
    roots_walked w s c.requires f a k (more_walked w s stucks h c.if-visit_bonds.true c.visit_pile-then-visit_bonds.ensures)

pub returns-else-visit_bonds : goal.returns-else-visit_bonds
returns-else-visit_bonds c =
    let w = c.args.lent.table.bytes.now in
    let s = view c.args.lent.state.now in
    let f : c.from-faces.result ≡ s.face.used = cc in
    let a : c.from-waits.result ≡ s.waiting.used = cc in
    let k : c.from-stucks.result ≡ s.stuck.used = cc in
    let face = row s.face.words 0 c.from-faces.result in
    let waits = sides_of (unpack c.from-waits.result s.waiting.words) in
    let ties = sides_of (bonds 0 s.names) in
    let stucks = sides_of (unpack c.from-stucks.result s.stuck.words) in
    let g : Walked w s (face ++ waits) c.args.seen.now c.if-visit_row.value c.if-visit_row.seen =
    elim c.if-visit_row.branch [
      | then-visit_row x ↦ rw (x.value-is, x.seen-is) (more_walked w s waits c.visit_row.ensures x.if-visit_row.true x.visit_pile.ensures)
      | else-visit_row x ↦ rw (x.value-is, x.seen-is) (no_more w s waits c.visit_row.ensures x.if-visit_row.false)
    ] in
    let h : Walked w s ((face ++ waits) ++ ties) c.args.seen.now c.if-visit_pile.value c.if-visit_pile.seen =
    elim c.if-visit_pile.branch [
      | then-visit_pile x ↦ rw (x.value-is, x.seen-is) (more_walked w s ties g x.if-visit_pile.true x.visit_bonds.ensures)
      | else-visit_pile x ↦ rw (x.value-is, x.seen-is) (no_more w s ties g x.if-visit_pile.false)
    ] in
    roots_walked w s c.requires f a k (no_more w s stucks h c.if-visit_bonds.false)
