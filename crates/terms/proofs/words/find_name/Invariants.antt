-- `find_name`: the first k names are passed, none of that spelling. Assumes nothing.
use Rattle.terms.specs.Sheet.{view}
use Rattle.terms.proofs.Look.{Sought}
use Rattle.terms.proofs.words.find_name.Given as goal

abbrev pub invariant-loop-k : goal.invariant-loop-k
invariant-loop-k l = Sought l.text (view l.sheet).places l.n l.word l.k
