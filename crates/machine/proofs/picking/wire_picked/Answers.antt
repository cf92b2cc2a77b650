-- `machine::picking::wire_picked` meets its contract.
use Rattle.machine.proofs.Picks.{link-full, link-ready, link_right, linked}
use Rattle.std.proofs.Common.{rules}
use Rattle.machine.proofs.picking.wire_picked.Goals as goal

pub returns-then-uncountable : goal.returns-then-uncountable
returns-then-uncountable c = search (rules, link-full)

pub wire-requires : goal.wire-requires
wire-requires c = search (rules, link-ready, link_right)

pub returns : goal.returns
returns c = search (rules, linked)
