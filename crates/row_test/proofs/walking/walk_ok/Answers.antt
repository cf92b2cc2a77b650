-- `row_test::walking::walk_ok` meets its contract.
use Rattle.std.proofs.Common.{rules}
use Rattle.row_test.proofs.Walks.{walking_none, walking_room, walking_less, walking_cell, walking_astray, walking_name, walking_late, walking_end}
use Rattle.row_test.proofs.walking.walk_ok.Goals as goal

pub loop-top-init : goal.loop-top-init
loop-top-init c = search (rules, walking_none)

pub returns-then-not-cell_due : goal.returns-then-not-cell_due
returns-then-not-cell_due c = search (rules, walking_astray)

pub entered-top-requires : goal.entered-top-requires
entered-top-requires c = walking_room _ _ _ _ _ _ (search rules) c.loop-top.invariant c.loop-top-test.true _ c.cell_due.ensures (search rules)

pub loop-top-smaller-then-x-eq1 : goal.loop-top-smaller-then-x-eq1
loop-top-smaller-then-x-eq1 c = walking_less _ _ _ _ _ _ (search rules) c.loop-top.invariant c.loop-top-test.true _ c.cell_due.ensures (search rules) _ c.entered-top.ensures.0

pub loop-top-preserved-then-x-eq1 : goal.loop-top-preserved-then-x-eq1
loop-top-preserved-then-x-eq1 c = walking_cell _ _ _ _ _ _ (search rules) c.loop-top.invariant c.loop-top-test.true _ c.cell_due.ensures (search rules) _ _ c.if-x-eq1.true c.entered-top.ensures.0 c.entered-top.ensures.1

pub returns-then-not-name_due : goal.returns-then-not-name_due
returns-then-not-name_due c = search (rules, walking_late)

pub loop-top-preserved : goal.loop-top-preserved
loop-top-preserved c = search (rules, walking_name)

pub returns : goal.returns
returns c = search (rules, walking_end)
