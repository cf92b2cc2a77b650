-- `stuck_pairs::held` meets its contract.
use Rattle.std.proofs.Common.{rules}
use Rattle.stuck_pairs.proofs.Stuck.{held_left, held_right, held-cells}
use Rattle.stuck_pairs.proofs.held.Goals as goal

pub returns : goal.returns
returns c = search (rules, held-cells)

pub returns-in_default : goal.returns-in_default
returns-in_default c = search (rules, held_left)

pub returns-in_default-right : goal.returns-in_default-right
returns-in_default-right c = search (rules, held_right)
