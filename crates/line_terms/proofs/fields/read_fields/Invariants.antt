-- `read_fields`: the loop's invariant is `Reading`. Assumes nothing.
use Rattle.terms.specs.Sheet.{view}
use Rattle.terms.specs.Agents.{agents_of}
use Rattle.line_terms.proofs.Fielding.{Reading}
use Rattle.line_terms.proofs.fields.read_fields.Given as goal

abbrev pub invariant-loop-i : goal.invariant-loop-i
invariant-loop-i l = Reading l.source.text.now (agents_of l.source.agents.now) l.from l.to l.n (view l.initial.sheet) l.initial.codes (view l.sheet) l.codes l.at l.i
