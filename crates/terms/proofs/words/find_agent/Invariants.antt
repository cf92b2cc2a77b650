-- `find_agent`: the first k agents are passed, none of that spelling. Assumes nothing.
use Rattle.terms.proofs.Look.{Looked}
use Rattle.terms.proofs.words.find_agent.Given as goal

abbrev pub invariant-loop-k : goal.invariant-loop-k
invariant-loop-k l = Looked l.agents l.word l.k
