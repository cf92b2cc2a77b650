-- `loading::write_names` meets its contract.
use Rattle.state.specs.Layout.{view}
use Rattle.state.specs.declared.Part.TheVariants.{Names}
use Rattle.loading.proofs.Lays.{Laying}
use Rattle.loading.proofs.write_names.Given as goal

abbrev pub invariant-loop-x : goal.invariant-loop-x
invariant-loop-x l = Laying Names 0 l.n (λ j. 1) (view l.initial.state) (view l.state) l.x
