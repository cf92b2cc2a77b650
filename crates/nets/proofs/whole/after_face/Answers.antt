-- `nets::whole::after_face` meets its contract.
use Rattle.std.proofs.lemmas.Result.{err_from_is_err_and}
use Rattle.nets.specs.Heading.{plain}
use Rattle.nets.specs.Proofs.Wholes.{face-faulty, count-upper, count-lower, eqs-few, text_8, text-fine}
use Rattle.nets.proofs.whole.after_face.Goals as goal
use Rattle.nets.proofs.whole.after_face.Goals.{then-counts-f-via-then-counts-f, then-counts-f-via-else-counts-f+then-counts-k}

pub returns-in_err-k : goal.returns-in_err-k
returns-in_err-k c = let p = err_from_is_err_and c.from_residual.result c.from_residual.ensures.1 in
    rw (p.1, p.2) (λ m g. face-faulty _ _ _ _ _ _ m _ _ _ g _ _ _ (c.in_err-k.ensures.eqs_read m g.fit g.drafted g.many g.bare))

pub returns-then-counts-f : goal.returns-then-counts-f
returns-then-counts-f c = λ m g. let e = c.in_ok-k.ensures.eqs_read m g.fit g.drafted g.many g.bare in elim c.then-counts-f.branch [
  | then-counts-f-via-then-counts-f w ↦ count-upper _ _ _ _ _ _ m _ _ _ g _ _ _ e w.if-counts-f.true
  | then-counts-f-via-else-counts-f+then-counts-k w ↦ count-lower _ _ _ _ _ _ m _ _ _ g _ _ _ e w.if-counts-f.false w.if-counts-k.true
]

pub loose_line-requires : goal.loose_line-requires
loose_line-requires c = let p = c.requires in let g = p.2.1 in let m = p.2.0 in
    (eqs-few _ _ _ _ (plain c.args.counts) _ m _ _ _ g _ _ _ (c.in_ok-k.ensures.eqs_read m g.fit g.drafted g.many g.bare), p.0, c.in_ok-k.ensures.equations_le_net_equations_max)

pub returns-in-Some : goal.returns-in-Some
returns-in-Some c = λ m g. text_8 _ _ _ _ _ _ m _ _ _ g _ _ _ (c.in_ok-k.ensures.eqs_read m g.fit g.drafted g.many g.bare) c.if-counts-f.false c.if-counts-k.false c.in-Some.ensures

pub returns : goal.returns
returns c = λ m g. text-fine _ _ _ _ _ _ m _ _ _ g _ _ _ (c.in_ok-k.ensures.eqs_read m g.fit g.drafted g.many g.bare) c.if-counts-f.false c.if-counts-k.false c.in_default.ensures
