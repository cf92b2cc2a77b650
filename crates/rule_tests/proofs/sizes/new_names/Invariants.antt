-- `rule_tests::sizes::new_names`: n names before the place stand last there.
use Prim.Native.Nat.{◌-◌}
use lib.ListN.{length}
use Rattle.scan.specs.Words.{words_in}
use Rattle.terms.specs.Agents.{agents_of}
use Rattle.rule_tests.specs.Words.{new_word}
use Rattle.rule_tests.proofs.Loops.{Counted}
use Rattle.rule_tests.proofs.sizes.new_names.Given as goal

abbrev pub invariant-loop-at : goal.invariant-loop-at
invariant-loop-at l = Counted (new_word (agents_of l.agents) (words_in l.left)) l.right l.at l.n

abbrev pub decreases-loop-at : goal.decreases-loop-at
decreases-loop-at l = length l.right - l.at
