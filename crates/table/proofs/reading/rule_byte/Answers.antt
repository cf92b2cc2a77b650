-- `table::reading::rule_byte` meets its contract.
use Rattle.table.proofs.Laws.{rule_get}
use Rattle.std.proofs.Common.{rules}
use Rattle.table.proofs.reading.rule_byte.Goals as goal

pub returns : goal.returns
returns c = search (rules, rule_get)
