-- `firing::pairs::fire` meets its contract.
use Rattle.firing.proofs.Fires.{room_left, waits-fit, cells_in, fire_way, right_way}
use borrow.Author.Rules.{rules}
use Rattle.firing.proofs.pairs.fire.Goals as goal

pub take-taken-requires : goal.take-taken-requires
take-taken-requires c = search (rules, room_left)

pub build-requires : goal.build-requires
build-requires c = (search (rules, cells_in), search (rules, waits-fit))

pub returns-clause-state_after : goal.returns-clause-state_after
returns-clause-state_after c = search (rules, fire_way)

pub returns-clause-right : goal.returns-clause-right
returns-clause-right c = search (rules, right_way)
