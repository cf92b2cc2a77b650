-- `nets::front::first_line` meets its contract.
use Rattle.std.proofs.Common.{rules}
use Rattle.nets.proofs.Sizes.{next_fits}
use Rattle.nets.specs.Proofs.Stepping.{ended-within}
use Rattle.nets.specs.Proofs.Fronts.{first_none, first_unended, first-bad, first_ended}
use Rattle.nets.proofs.front.first_line.Goals as goal

pub returns-in_err-end : goal.returns-in_err-end
returns-in_err-end c = search (rules, first_unended)

pub returns-in_default : goal.returns-in_default
returns-in_default c = search (rules, first_none)

pub slice_bounds-header_line-end : goal.slice_bounds-header_line-end
slice_bounds-header_line-end c = search (rules, ended-within)

pub returns-in_err-counts : goal.returns-in_err-counts
returns-in_err-counts c = search (rules, first-bad)

pub overflow_add-result : goal.overflow_add-result
overflow_add-result c = search (rules, next_fits)

pub returns : goal.returns
returns c = search (rules, first_ended)
