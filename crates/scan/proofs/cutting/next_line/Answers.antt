-- `scan::cutting::next_line` meets its contract: a law for each way out.
use Rattle.std.proofs.Common.{rules}
use Rattle.scan.proofs.Cuts.{line-nothing, line-ended, line_unended}
use Rattle.scan.proofs.cutting.next_line.Goals as goal

pub returns-then-text-at : goal.returns-then-text-at
returns-then-text-at c = search (rules, line-nothing)

pub returns-then-n-rest : goal.returns-then-n-rest
returns-then-n-rest c = search (rules, line-ended)

pub returns-else-n-rest : goal.returns-else-n-rest
returns-else-n-rest c = search (rules, line_unended)
