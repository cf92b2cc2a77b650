-- `cell_walk::met` meets its contract.
use Rattle.std.proofs.Common.{rules}
use Rattle.cell_walk.specs.Walks.{met}
use Rattle.cell_walk.proofs.met.Goals as goal

pub returns : goal.returns
unfolding met
returns c = search rules
