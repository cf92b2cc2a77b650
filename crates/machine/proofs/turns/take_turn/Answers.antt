-- `machine::turns::take_turn` meets its contract.
use Rattle.std.proofs.Common.{refl, rules}
use Rattle.machine.proofs.Heads.{turn-ended, left_fits, turn_on, turn_stopped}
use Rattle.machine.proofs.turns.take_turn.Goals as goal

pub returns-then-count-eq0 : goal.returns-then-count-eq0
returns-then-count-eq0 c = search (rules, turn-ended)

pub returns-in_err-done : goal.returns-in_err-done
returns-in_err-done c = search (rules, turn_stopped)

pub overflow_sub-result : goal.overflow_sub-result
overflow_sub-result c =
    left_fits _ _ _ _ c.requires.0 c.count.ensures c.if-count-eq0.false _ _ c.in_ok-done.ensures _ refl _ c.from.ensures

pub returns : goal.returns
returns c = search (rules, turn_on)
