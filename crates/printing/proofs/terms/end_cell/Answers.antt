-- `printing::terms::end_cell` meets its contract.
use Rattle.printing.proofs.Names.{closing_none, closing_some}
use Rattle.std.proofs.Common.{rules}
use Rattle.printing.proofs.terms.end_cell.Goals as goal

pub returns-then-n-eq0 : goal.returns-then-n-eq0
returns-then-n-eq0 c = search (rules, closing_none)

pub returns-else-n-eq0 : goal.returns-else-n-eq0
returns-else-n-eq0 c = search (rules, closing_some)
