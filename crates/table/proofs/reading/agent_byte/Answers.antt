-- `table::reading::agent_byte` meets its contract.
use Rattle.table.proofs.Laws.{agent_get}
use Rattle.std.proofs.Common.{rules}
use Rattle.table.proofs.reading.agent_byte.Goals as goal

pub returns : goal.returns
returns c = search (rules, agent_get)
