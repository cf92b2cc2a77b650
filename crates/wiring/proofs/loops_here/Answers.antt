-- `wiring::loops_here` meets its contract.
use Rattle.std.proofs.Common.{rules}
use Rattle.wiring.proofs.Keeps.{cell-no_loop, left_no_loop}
use Rattle.wiring.proofs.loops_here.Goals as goal

pub returns-in_default : goal.returns-in_default
returns-in_default c = search (rules, cell-no_loop)

pub returns-in_default-2 : goal.returns-in_default-2
returns-in_default-2 c = search (rules, left_no_loop)
