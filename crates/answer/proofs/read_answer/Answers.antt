-- `answer::read_answer` meets its contract.
use Rattle.answer.proofs.Calls.{lent-sound, way_unsound, way_waits, way_long, way_read}
use Rattle.std.proofs.Common.{rules}
use Rattle.answer.proofs.read_answer.Goals as goal

pub returns-then-not-both_sound : goal.returns-then-not-both_sound
returns-then-not-both_sound c = search (rules, way_unsound)

pub returns-then-count-ne0 : goal.returns-then-count-ne0
returns-then-count-ne0 c = search (rules, way_waits)

pub invariant_of-lent : goal.invariant_of-lent
invariant_of-lent c = search (rules, lent-sound)

pub returns-then-out-need : goal.returns-then-out-need
returns-then-out-need c = search (rules, way_long)

pub returns : goal.returns
returns c = search (rules, way_read)
