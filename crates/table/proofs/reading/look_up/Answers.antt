-- `table::reading::look_up` meets its contract.
use Rattle.std.proofs.Common.{rules}
use Rattle.table.proofs.Laws.{found_none, found-straight, found-turned}
use Rattle.table.proofs.reading.look_up.Goals as goal

pub returns-in-0 : goal.returns-in-0
returns-in-0 c = search (rules, found_none)

pub returns-in-1 : goal.returns-in-1
returns-in-1 c = search (rules, found-straight)

pub returns-in_default : goal.returns-in_default
returns-in_default c = search (rules, found-turned)
