-- `sound::passes::answers` meets its contract.
use Rattle.sound.proofs.Ways.{answers_none, answers-name, answers-cell}
use Rattle.std.proofs.Common.{rules}
use Rattle.sound.proofs.passes.answers.Goals as goal

pub returns-then-word-lt2 : goal.returns-then-word-lt2
returns-then-word-lt2 c = search (rules, answers_none)

pub returns-in-Name : goal.returns-in-Name
returns-in-Name c = search (rules, answers-name, answers-cell)

pub returns-in-Cell : goal.returns-in-Cell
returns-in-Cell c = search (rules, answers-name, answers-cell)
