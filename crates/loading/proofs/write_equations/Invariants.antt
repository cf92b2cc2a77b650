-- `loading::write_equations` meets its contract.
use Rattle.state.specs.Layout.{view}
use Rattle.loading.proofs.Lays.{Stacking}
use Rattle.loading.proofs.write_equations.Given as goal

abbrev pub invariant-loop-k : goal.invariant-loop-k
invariant-loop-k l = Stacking l.codes l.f l.n (view l.initial.state) (view l.state) l.k
