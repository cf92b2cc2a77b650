-- `state::take_out` meets its contract.
use Rattle.state.specs.Layout.{view}
use Rattle.state.proofs.Pulls.{Pulling}
use Rattle.state.proofs.take_out.Given as goal

abbrev pub invariant-loop-j : goal.invariant-loop-j
invariant-loop-j l = Pulling (view l.initial.state) (view l.state) l.k l.last l.j
