-- `cell_walk::enter` meets its contract.
use Rattle.std.proofs.Common.{rules}
use Rattle.cell_walk.proofs.Cells.{enter_beyond, enter_again, enter_unused, enter_new}
use Rattle.cell_walk.proofs.enter.Goals as goal
use Rattle.cell_walk.proofs.enter.Goals.{then-i-ge-CELLS-via-then-i-ge-CELLS, then-i-ge-CELLS-via-else-i-ge-CELLS+then-seen-i-ne0}

pub returns-then-i-ge-CELLS : goal.returns-then-i-ge-CELLS
returns-then-i-ge-CELLS c =
    elim c.then-i-ge-CELLS.branch [
      | then-i-ge-CELLS-via-then-i-ge-CELLS w ↦ search (rules, enter_beyond)
      | then-i-ge-CELLS-via-else-i-ge-CELLS+then-seen-i-ne0 w ↦ search (rules, enter_again)
    ]

pub returns-then-word-eq0 : goal.returns-then-word-eq0
returns-then-word-eq0 c = search (rules, enter_unused)

pub returns : goal.returns
returns c = search (rules, enter_new)
