-- `machine::picking::step_on` meets its contract.
use Rattle.machine.proofs.Picks.{name_pickable, turned_pickable, went-name, went-turned, went-cells}
use Rattle.std.proofs.Common.{rules}
use Rattle.machine.proofs.picking.step_on.Goals as goal

pub wire_picked-requires : goal.wire_picked-requires
wire_picked-requires c = (search (rules, name_pickable), search rules)

pub wire_picked-requires-in-Cell-Name : goal.wire_picked-requires-in-Cell-Name
wire_picked-requires-in-Cell-Name c = (search (rules, turned_pickable), search rules)

pub returns-in-Name-default : goal.returns-in-Name-default
returns-in-Name-default c = search (rules, went-name)

pub returns-in-Cell-Name : goal.returns-in-Cell-Name
returns-in-Cell-Name c = search (rules, went-turned)

pub returns-in-Cell-Cell : goal.returns-in-Cell-Cell
returns-in-Cell-Cell c = search (rules, went-cells)
