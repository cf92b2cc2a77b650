-- `net_lines::terms_of::judge` meets its contract.
use Rattle.std.proofs.Common.{rules, refl}
use Rattle.net_lines.proofs.Lines.{from_le, from-fits, line-narrow, line-room}
use Rattle.net_lines.specs.Proofs.Judges.{big-judged, cells-judged, names-judged, all_judged}
use Rattle.net_lines.proofs.terms_of.judge.Goals as goal
use Rattle.net_lines.proofs.terms_of.judge.Goals.{then-oversized-via-then-oversized, then-oversized-via-else-oversized+then-many_cells}

pub returns-then-oversized : goal.returns-then-oversized
returns-then-oversized c = λ ts us m q. elim c.then-oversized.branch [
  | then-oversized-via-then-oversized w ↦ big-judged q _ refl _ c.oversized.ensures w.if-oversized.true
  | then-oversized-via-else-oversized+then-many_cells w ↦ cells-judged q _ refl _ c.oversized.ensures w.if-oversized.false refl _ w.many_cells.ensures w.if-many_cells.true
]

pub overflow_add-from : goal.overflow_add-from
overflow_add-from c = search (rules, from-fits)

pub enter_names-requires : goal.enter_names-requires
enter_names-requires c = search (rules, from_le)

pub take_terms-requires : goal.take_terms-requires
take_terms-requires c = search (rules, line-narrow, line-room)

pub returns-then-not-enter_names : goal.returns-then-not-enter_names
returns-then-not-enter_names c = search (rules, names-judged)

pub returns : goal.returns
returns c = search (rules, all_judged, line-narrow, line-room)
