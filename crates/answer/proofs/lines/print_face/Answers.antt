-- `answer::lines::print_face` meets its contract.
use Rattle.std.proofs.Common.{◌∙◌}
use Rattle.answer.proofs.Tails.{face-ready, face-row, line_of_face}
use Rattle.std.proofs.Common.{rules}
use Rattle.answer.proofs.lines.print_face.Goals as goal

pub print_tail-requires : goal.print_tail-requires
print_tail-requires c = rw c.from-n.ensures (search (rules, face-ready), search (rules, face-row))

pub returns : goal.returns
returns c =
    line_of_face _ _ c.args.lent.sound _ _ _ _ _ c.requires c.mark_word-a.ensures _ (c.from-n.ensures ∙ c.count.ensures) _ _ _ c.print_tail.ensures
