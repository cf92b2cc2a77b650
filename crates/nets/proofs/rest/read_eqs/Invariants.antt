-- `nets::rest::read_eqs` meets its contract.
use Rattle.std.proofs.Common.{◌≡◌, ◌-◌, ◌≤◌, [], length}
use Rattle.parts.specs.Limits.{net_equations_max}
use Rattle.texts.specs.Books.{Net}
use Rattle.terms.specs.Agents.{agents_of}
use Rattle.terms.specs.Sheet.{view}
use Rattle.net_lines.specs.Judging.{Fit}
use Rattle.nets.specs.Drafted.{Drafted}
use Rattle.nets.specs.Proofs.Going.{Going}
use Rattle.nets.proofs.rest.read_eqs.Given as goal

abbrev pub invariant-loop-next : goal.invariant-loop-next
invariant-loop-next l = record {
  within : l.at ≤ length l.source.text.now;
  room : l.k ≤ net_equations_max;
  going : (m : Net) → Fit l.source.text.now (agents_of l.source.agents.now) → Drafted l.source.text.now (agents_of l.source.agents.now) (view l.initial.draft.sheet) l.initial.draft.codes l.initial.draft.marks m → l.f ≡ length m.face → m.equations ≡ []
      → Going l.source.text.now (agents_of l.source.agents.now) l.from m l.at l.k (view l.draft.sheet) l.draft.codes l.draft.marks;
}

abbrev pub decreases-loop-next : goal.decreases-loop-next
decreases-loop-next l = length l.source.text.now - l.at
