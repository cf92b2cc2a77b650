-- `fields_argued`: the loop's invariant is `Passing`. Assumes nothing.
use Rattle.terms.specs.Agents.{agents_of}
use Rattle.line_terms.proofs.Arguing.{Passing}
use Rattle.line_terms.proofs.arguments.fields_argued.Given as goal

abbrev pub invariant-loop-i : goal.invariant-loop-i
invariant-loop-i l = Passing l.source.text.now (agents_of l.source.agents.now) l.from l.to l.n l.at l._i
