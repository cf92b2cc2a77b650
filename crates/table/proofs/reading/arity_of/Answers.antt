-- `table::reading::arity_of` meets its contract.
use Rattle.table.proofs.Laws.{arity_none, arity_is}
use Rattle.std.proofs.Common.{rules}
use Rattle.table.proofs.reading.arity_of.Goals as goal

pub returns-then-from-s : goal.returns-then-from-s
returns-then-from-s c = search (rules, arity_none)

pub returns : goal.returns
returns c = search (rules, arity_is)
