-- `table::writing::empty_table` meets its contract.
use Rattle.std.proofs.Common.{sym}
use Rattle.table.specs.Laws.Whole.{nothing-bytes}
use Rattle.table.proofs.writing.empty_table.Goals as goal

pub returns : goal.returns
returns c = sym nothing-bytes
