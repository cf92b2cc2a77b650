-- `enter_new`: one law for each way out. Assumes nothing.
use Rattle.std.proofs.Common.{arith, rules}
use Rattle.lines.proofs.Entering.{room-name, room-place, room-length, new_over, new_old, new_none, new_new}
use Rattle.lines.proofs.names.enter_new.Goals as goal

pub returns-then-limit-n : goal.returns-then-limit-n
returns-then-limit-n c = search (rules, new_over)

pub returns-then-find_name-n : goal.returns-then-find_name-n
returns-then-find_name-n c = search (rules, new_old)

pub overflow_cast-at : goal.overflow_cast-at
overflow_cast-at c = search (rules, room-place, room-length)

pub overflow_cast-long : goal.overflow_cast-long
overflow_cast-long c = omega (arith, room-length _ _ _ _ c.room-free.ensures c.if-free.true)

pub enter_name-requires : goal.enter_name-requires
enter_name-requires c = search (rules, room-name)

pub returns-then-free : goal.returns-then-free
returns-then-free c = search (rules, new_new)

pub returns-else-free : goal.returns-else-free
returns-else-free c = search (rules, new_none)
