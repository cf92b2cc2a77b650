-- `table::reading::has_rule` meets its contract.
use Rattle.std.proofs.Common.{rules}
use Rattle.table.proofs.Laws.{has_found}
use Rattle.table.proofs.reading.has_rule.Goals as goal

pub returns : goal.returns
returns c = search (rules, has_found)
