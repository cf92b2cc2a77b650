-- `scan::numbers::value` meets its contract.
use Rattle.std.proofs.Common.{rules, arith}
use Rattle.scan.proofs.Digits.{valued_none, valued_small, valued_more, valued_end, digit_at}
use Rattle.scan.proofs.numbers.value.Goals as goal

pub loop-b-init : goal.loop-b-init
loop-b-init c = valued_none _

pub overflow_mul-v : goal.overflow_mul-v
overflow_mul-v c = omega (arith, valued_small _ _ _ c.requires c.loop-b.invariant c.loop-b-test.true)

pub overflow_sub-b : goal.overflow_sub-b
overflow_sub-b c = omega (arith, digit_at _ _ c.requires c.loop-b-test.true)

pub overflow_add-v : goal.overflow_add-v
overflow_add-v c = omega (
  arith,
  valued_small _ _ _ c.requires c.loop-b.invariant c.loop-b-test.true,
  digit_at _ _ c.requires c.loop-b-test.true,
)

pub loop-b-preserved : goal.loop-b-preserved
loop-b-preserved c = search (rules, valued_more)

pub returns : goal.returns
returns c = search (rules, valued_end)
