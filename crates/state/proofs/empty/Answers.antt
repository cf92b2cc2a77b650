-- `state::empty` meets its contract.
use native.Mathlib.Omega.{arith}
use Rattle.state.specs.Layout.{state_size}
use Rattle.state.proofs.Counts.{view-zeros}
use Rattle.state.proofs.empty.Goals as goal

pub returns : goal.returns
returns c = view-zeros state_size (omega arith)
