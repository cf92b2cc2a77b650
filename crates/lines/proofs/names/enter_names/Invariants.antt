-- `enter_names`: the words before the place are entered. Assumes nothing.
use Prim.Native.Nat.{◌-◌}
use lib.ListN.{length}
use Rattle.terms.specs.Agents.{agents_of}
use Rattle.terms.specs.Sheet.{view}
use Rattle.lines.proofs.Entering.{Entering}
use Rattle.lines.proofs.names.enter_names.Given as goal

abbrev pub invariant-loop-at : goal.invariant-loop-at
invariant-loop-at l = Entering l.source.text.now (agents_of l.source.agents.now) l.limit l.from l.to l.words (view l.initial.sheet) (view l.sheet) l.at

abbrev pub decreases-loop-at : goal.decreases-loop-at
decreases-loop-at l = length l.words - l.at
