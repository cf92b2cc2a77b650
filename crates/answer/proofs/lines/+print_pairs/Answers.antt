-- `answer::lines::print_pairs` meets its contract. The measure is the pairs left.
use Rattle.std.proofs.Common.{rules}
use Rattle.answer.proofs.Tails.{pairs_end, first_pair, first_there, rest-pairs, pairs_way}
use Rattle.answer.proofs.lines.+print_pairs.Goals as goal

pub returns-then-n-eq0 : goal.returns-then-n-eq0
returns-then-n-eq0 t c = search (rules, pairs_end)

pub print_pair-a-requires : goal.print_pair-a-requires
print_pair-a-requires t c = (search (rules, first_pair), search (rules, first_there))

pub print_pairs-requires : goal.print_pairs-requires
print_pairs-requires t c = (search rules, (search (rules, rest-pairs), search rules))

pub returns : goal.returns
returns t c = search (rules, pairs_way)
