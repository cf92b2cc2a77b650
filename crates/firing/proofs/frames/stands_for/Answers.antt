-- `firing::frames::stands_for` meets its contract.
use Rattle.firing.proofs.Entering.{worth-name, worth-cell}
use borrow.Author.Rules.{rules}
use Rattle.firing.proofs.frames.stands_for.Goals as goal

pub returns-in-Name : goal.returns-in-Name
returns-in-Name c = search (rules, worth-name)

pub returns-in-Cell : goal.returns-in-Cell
returns-in-Cell c = search (rules, worth-cell)
