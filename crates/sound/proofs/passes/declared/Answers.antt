-- `sound::passes::declared` meets its contract.
use Rattle.std.specs.Prelude.{leb, get_or}
use Rattle.std.proofs.Common.{rules, ap₂, ◌∙◌, arith, tests}
use Rattle.std.proofs.lemmas.Iterator.{YieldsList-from_slice}
use Rattle.std.proofs.lemmas.Iterator.Search.{all_from_yields_List}
use Rattle.model.specs.Test.{every, declared}
use Rattle.state.specs.Layout.{view}
use Rattle.state.specs.declared.Part.TheVariants.{Symbols}
use Rattle.sound.proofs.Every.{all-every}
use Rattle.sound.proofs.Places.{part_full}
use Rattle.sound.proofs.Tables.{under-count}
use Rattle.sound.proofs.passes.declared.Goals as goal

pub returns : goal.returns
unfolding declared
returns c =
    let l = (view c.args.state.now).symbols in
    all_from_yields_List (λ v. leb v c.from-most.result) _ _ _ c.all.ensures.ran (YieldsList-from_slice l (cc)) (λ x b q k. search (rules, tests))
    ∙ all-every (λ v. leb v c.from-most.result) 0 l
    ∙ ap₂ (λ n k. every n (λ i. leb (get_or l i 0) k)) (part_full Symbols c.args.state.now (omega arith)) (cc (under-count c.args.table.now))
