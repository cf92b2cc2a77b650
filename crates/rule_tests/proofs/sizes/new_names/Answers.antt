-- `rule_tests::sizes::new_names`: n names before the place stand last there.
use Rattle.std.proofs.Common.{rules}
use Rattle.rule_tests.proofs.Loops.{counted_none, counted_end, counted_last, counted_more, word-order, word_less}
use Rattle.rule_tests.proofs.sizes.new_names.Goals as goal

pub loop-at-init : goal.loop-at-init
loop-at-init c = search (rules, counted_none)

pub returns-then-right-from : goal.returns-then-right-from
returns-then-right-from c = search (rules, counted_last)

pub overflow_sub-to : goal.overflow_sub-to
overflow_sub-to c = search (rules, word-order)

pub loop-at-smaller : goal.loop-at-smaller
loop-at-smaller c = search (rules, word_less)

pub loop-at-preserved : goal.loop-at-preserved
loop-at-preserved c =
    counted_more _ _ _ _ c.loop-at.invariant _ _ c.word_start-from.ensures c.if-right-from.false c.word_end-to.ensures _ c.part.ensures _
    c.part-later.ensures _ c.last_new.ensures _ c.from-n.ensures

pub returns : goal.returns
returns c = search (rules, counted_end)
