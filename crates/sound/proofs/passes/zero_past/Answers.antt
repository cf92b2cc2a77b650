-- `sound::passes::zero_past` meets its contract.
use Rattle.std.proofs.Common.{rules, ap, ◌∙◌, arith, tests}
use Rattle.std.specs.Prelude.{eqb}
use Rattle.std.proofs.lemmas.Iterator.{YieldsList-from_slice}
use Rattle.std.proofs.lemmas.Iterator.Adapters.{YieldsList-from_skip}
use Rattle.std.proofs.lemmas.Iterator.Search.{all_from_yields_List}
use Rattle.model.specs.Test.{every}
use Rattle.state.specs.Layout.{view}
use Rattle.state.specs.Places.{words}
use Rattle.sound.specs.Clauses.{zero_past}
use Rattle.sound.proofs.Every.{past-every}
use Rattle.sound.proofs.Places.{part_full}
use Rattle.sound.proofs.passes.zero_past.Goals as goal

pub returns : goal.returns
unfolding zero_past
returns c =
    let l = words c.args.p (view c.args.state.now) in
    all_from_yields_List (λ v. eqb v 0) _ _ _ c.all.ensures.ran (YieldsList-from_skip c.args.n (YieldsList-from_slice l (cc)) (cc)) (λ x b q k. search (rules, tests))
    ∙ past-every l c.args.n ∙ ap (λ n. every n (zero_past c.args.n l)) (part_full c.args.p c.args.state.now (omega arith))
