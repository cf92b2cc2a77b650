-- `answer::lines::print_pairs` meets its contract. The measure is the pairs left.
use Rattle.answer.proofs.lines.+print_pairs.Given as goal

abbrev pub decreases-print_pairs : goal.decreases-print_pairs
decreases-print_pairs l = l.n
