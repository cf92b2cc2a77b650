-- `nets::front::header_line` meets its contract.
use Rattle.std.proofs.Common.{rules}
use Rattle.nets.specs.Proofs.Fronts.{head_2, head-counts}
use Rattle.nets.proofs.front.header_line.Goals as goal

pub returns-then-first_bad-line : goal.returns-then-first_bad-line
returns-then-first_bad-line c = search (rules, head_2)

pub returns : goal.returns
returns c = search (rules, head-counts)
