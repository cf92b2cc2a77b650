-- `firing::taking::take_names` meets its contract.
use Rattle.firing.proofs.Takes.{Taking}
use Rattle.firing.specs.Frames.{names_at}
use Rattle.firing.specs.Taken.{name_code}
use Rattle.firing.specs.Built.{names_of}
use Rattle.state.specs.Layout.{view}
use Rattle.state.specs.declared.Part.TheVariants.{Names}
use Rattle.firing.proofs.taking.take_names.Given as goal

abbrev pub invariant-loop-i : goal.invariant-loop-i
invariant-loop-i l = Taking Names (λ j. 1) name_code names_at
    (names_of l.rule.table.now l.rule.number) (view l.initial.state) (view l.state) l.initial.frame l.frame l.from l.i
