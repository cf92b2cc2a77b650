-- `answer::lines::print_pair` meets its contract.
use Rattle.answer.proofs.Tails.{pair-ready, pair_row, pair_line}
use Rattle.std.proofs.Common.{rules}
use Rattle.answer.proofs.lines.print_pair.Goals as goal

pub print_tail-requires : goal.print_tail-requires
print_tail-requires c = (search (rules, pair-ready), search (rules, pair_row))

pub returns : goal.returns
returns c = search (rules, pair_line)
