-- `rule_sheet::lefts::enter_next` meets its contract.
use Rattle.rule_sheet.proofs.Entering.{next_more, next-free, sheet_more, sheet-free, place-order}
use Rattle.std.proofs.Common.{rules}
use Rattle.rule_sheet.proofs.lefts.enter_next.Goals as goal

pub overflow_sub-to : goal.overflow_sub-to
overflow_sub-to c = search (rules, place-order)

pub returns-then-more : goal.returns-then-more
returns-then-more c = search (rules, next_more, sheet_more)

pub returns : goal.returns
returns c = search (rules, next-free, sheet-free)
