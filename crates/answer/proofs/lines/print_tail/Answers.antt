-- `answer::lines::print_tail` meets its contract.
use Rattle.answer.proofs.Tails.{tail-ready, tail-room, tail_way}
use Rattle.std.proofs.Common.{rules}
use Rattle.answer.proofs.lines.print_tail.Goals as goal

pub print_sides-r-requires : goal.print_sides-r-requires
print_sides-r-requires c = (search (rules, tail-ready), search rules)

pub mark-requires : goal.mark-requires
mark-requires c = search (rules, tail-room)

pub returns : goal.returns
returns c = search (rules, tail_way)
