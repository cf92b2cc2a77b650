-- `loading::write_face` meets its contract.
use lib.ListN.{get_or}
use Rattle.state.specs.Layout.{view}
use Rattle.state.specs.declared.Part.TheVariants.{Face}
use Rattle.loading.proofs.Lays.{Laying}
use Rattle.loading.proofs.write_face.Given as goal

abbrev pub invariant-loop-i : goal.invariant-loop-i
invariant-loop-i l = Laying Face 0 l.n (λ k. get_or l.codes k 0) (view l.initial.state) (view l.state) l.i
