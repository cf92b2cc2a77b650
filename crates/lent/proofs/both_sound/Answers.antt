-- `lent::both_sound` meets its contract.
use Rattle.std.proofs.Common.{rules}
use Rattle.lent.proofs.Ways.{usable-table, by_state, no_table}
use Rattle.lent.proofs.both_sound.Goals as goal

pub invariant_of-state_sound : goal.invariant_of-state_sound
invariant_of-state_sound c = search (rules, usable-table)

pub returns-then-table_sound : goal.returns-then-table_sound
returns-then-table_sound c = search (rules, by_state)

pub returns-else-table_sound : goal.returns-else-table_sound
returns-else-table_sound c = search (rules, no_table)
