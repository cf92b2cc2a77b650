-- `loading::write_arguments` meets its contract.
use Prim.Native.Nat.{◌+◌, ◌*◌}
use lib.ListN.{get_or}
use Rattle.parts.specs.Limits.{arity_max}
use Rattle.state.specs.Layout.{view}
use Rattle.state.specs.declared.Part.TheVariants.{Arguments}
use Rattle.terms.specs.Sheet as Sheets
use Rattle.loading.proofs.Lays.{Laying}
use Rattle.loading.proofs.write_arguments.Given as goal

abbrev pub invariant-loop-k : goal.invariant-loop-k
invariant-loop-k l = Laying Arguments (arity_max * l.c.0) l.n (λ j. get_or (Sheets.view l.sheet).arguments (arity_max * l.c.0 + j) 0) (view l.initial.state) (view l.state) l.k
