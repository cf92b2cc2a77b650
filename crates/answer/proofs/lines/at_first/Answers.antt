-- `answer::lines::at_first` meets its contract.
use Rattle.answer.proofs.Tails.{cells_fit}
use Rattle.std.proofs.Common.{rules}
use Rattle.answer.proofs.lines.at_first.Goals as goal

pub overflow_cast-result : goal.overflow_cast-result
overflow_cast-result c = search (rules, cells_fit)
