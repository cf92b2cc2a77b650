-- `machine::meeting::interact` meets its contract.
use Rattle.machine.proofs.Interactions.{spent, countable, no_room, pair_to_fire, room_to_fire, right_to_fire, interacted}
use Rattle.std.proofs.Common.{rules}
use Rattle.machine.proofs.meeting.interact.Goals as goal

pub returns-then-not-may : goal.returns-then-not-may
returns-then-not-may c = search (rules, spent)

pub room-requires : goal.room-requires
room-requires c = search (rules, countable)

pub returns-then-not-room : goal.returns-then-not-room
returns-then-not-room c = search (rules, no_room)

pub fire-requires : goal.fire-requires
fire-requires c = (search (rules, pair_to_fire), search (rules, room_to_fire), search (rules, right_to_fire))

pub returns : goal.returns
returns c = search (rules, interacted)
