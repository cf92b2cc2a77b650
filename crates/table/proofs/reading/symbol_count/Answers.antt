-- `table::reading::symbol_count` meets its contract.
use Rattle.table.specs.Laws.Whole.{symbols-are}
use Rattle.std.proofs.Common.{rules}
use Rattle.table.proofs.reading.symbol_count.Goals as goal

pub returns : goal.returns
returns c = search (rules, symbols-are)
