-- `machine::calls::run_on` meets its contract.
use Rattle.std.proofs.Common.{◌≡◌, ◌∙◌, refl, ◌+◌, ◌-◌, ◌≤◌, suc, arith}
use Rattle.machine.proofs.Runs.{going_none, going_more, going_stopped, going_end}
use Rattle.machine.proofs.calls.run_on.Goals as goal

pub loop-init : goal.loop-init
loop-init c =
    let e : c.enough-end.result - 0 ≡ c.enough-end.result = omega arith in
    going_none _ _ _ _ _ c.requires.0 c.keep.ensures (e ∙ c.enough-end.ensures)

pub loop-preserved : goal.loop-preserved
loop-preserved c =
    let e : c.enough-end.result - c.loop.counter ≡ suc (c.enough-end.result - (c.loop.counter + 1)) = omega arith in
    going_more _ _ _ _ _ _ c.loop.invariant _ e _ _ c.take_turn.ensures _ c.in-Ok.is

pub returns-in-Err : goal.returns-in-Err
returns-in-Err c =
    let e : c.enough-end.result - c.loop.counter ≡ suc (c.enough-end.result - (c.loop.counter + 1)) = omega arith in
    going_stopped _ _ _ _ _ _ c.loop.invariant _ e _ _ c.take_turn.ensures _ _ c.in-Err.is refl

pub returns : goal.returns
returns c =
    let e : c.enough-end.result - c.loop.counter ≤ 0 = omega arith in
    going_end _ _ _ _ _ _ c.loop.invariant _ e refl
