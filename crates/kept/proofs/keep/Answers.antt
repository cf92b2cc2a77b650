-- `kept::keep` meets its contract.
use Rattle.std.proofs.Common.{rules}
use Rattle.kept.proofs.Counts.{cells-few, names-few}
use Rattle.kept.proofs.keep.Goals as goal

pub overflow_cast-result : goal.overflow_cast-result
overflow_cast-result c = search (rules, cells-few)

pub overflow_cast-result-2 : goal.overflow_cast-result-2
overflow_cast-result-2 c = search (rules, names-few)
