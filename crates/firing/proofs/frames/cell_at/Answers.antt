-- `firing::frames::cell_at` meets its contract.
use Rattle.firing.proofs.Entering.{cell_in_way}
use borrow.Author.Rules.{rules}
use Rattle.firing.proofs.frames.cell_at.Goals as goal

pub returns : goal.returns
returns c = search (rules, cell_in_way)
