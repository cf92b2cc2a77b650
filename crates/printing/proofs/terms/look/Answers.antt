-- `printing::terms::look` meets its contract.
use Rattle.printing.proofs.Names.{name_there, looks_name, looks_cell}
use Rattle.std.proofs.Common.{rules}
use Rattle.printing.proofs.terms.look.Goals as goal

pub look_at-requires : goal.look_at-requires
look_at-requires c = search (rules, name_there)

pub returns-in-Name : goal.returns-in-Name
returns-in-Name c = search (rules, looks_name)

pub returns-in-Cell : goal.returns-in-Cell
returns-in-Cell c = search (rules, looks_cell)
