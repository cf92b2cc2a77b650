-- `answer::lines::print_answer` meets its contract.
use Rattle.std.proofs.Common.{◌∙◌}
use Rattle.answer.proofs.Tails.{answer-ready, pairs-ready, answer_way}
use Rattle.std.proofs.Common.{rules}
use Rattle.answer.proofs.lines.print_answer.Goals as goal

pub print_face-a-requires : goal.print_face-a-requires
print_face-a-requires c = search (rules, answer-ready)

pub print_pairs-requires : goal.print_pairs-requires
print_pairs-requires c =
    rw c.from-n.ensures (search (rules, pairs-ready), search rules)

pub returns : goal.returns
returns c =
    answer_way _ _ c.args.lent.sound _ c.at_first-k.ensures _ c.none_numbered-numbers.ensures _ _ _ _ c.print_face-a.ensures _ (c.from-n.ensures ∙ c.count.ensures) _ _ _ c.print_pairs.ensures
