-- `sound::passes::blanks` meets its contract.
use Rattle.std.specs.Prelude.{◌||◌, not, ℕ, ◌+◌, ◌*◌, leb, eqb, get_or}
use Rattle.std.proofs.Common.{rules, ap, ◌∙◌, tests}
use Rattle.parts.specs.Limits.{arity_max}
use Rattle.model.specs.Test.{every}
use Rattle.state.specs.Layout.{view}
use Rattle.sound.specs.Clauses.{blanks}
use Rattle.sound.proofs.Every.{all_between}
use Rattle.sound.proofs.passes.blanks.Goals as goal

pub returns : goal.returns
unfolding blanks
returns c =
    let f = λ (k : ℕ). eqb (get_or (view c.args.lent.state.now).arguments (arity_max * c.args.c + k) 0) 0 in
    all_between f c.from-n.result arity_max c.all.ensures.ran (cc) (λ x b q k. search (rules, tests))
    ∙ ap (λ n. every arity_max (λ k. not (leb n k) || f k)) (cc)
