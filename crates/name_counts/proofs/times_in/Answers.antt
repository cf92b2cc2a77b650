-- `name_counts::times_in` meets its contract.
use Rattle.std.specs.Prelude.{eqb, ◌*◌, length, take, drop}
use Rattle.std.proofs.Common.{rules, arith, ap, tests}
use Rattle.std.proofs.lemmas.Iterator.{YieldsList-from_slice}
use Rattle.std.proofs.lemmas.Iterator.Consumers.{YieldsList-at, YieldsList-from_filter, count_from_yields_List}
use Rattle.state.specs.Layout.{view}
use Rattle.state.specs.Places.{words}
use Rattle.sound.proofs.Places.{part_full}
use Rattle.name_counts.proofs.Counts.{times_way}
use Rattle.name_counts.proofs.times_in.Goals as goal

pub slice_bounds-iter-end : goal.slice_bounds-iter-end
slice_bounds-iter-end c = omega (arith, part_full c.args.p c.args.state.now (omega arith), ap length c.part_words.ensures)

pub returns : goal.returns
returns c =
    let l = words c.args.p (view c.args.state.now) in
    times_way c.args.x l c.args.from c.args.n _ (omega (arith, part_full c.args.p c.args.state.now (omega arith)))
    (count_from_yields_List _ _ c.count.ensures.ran (YieldsList-from_filter _ (λ v. eqb v (2 * c.args.x)) (YieldsList-at c.filter.ensures.source (YieldsList-from_slice (take c.args.n (drop c.args.from l)) (search rules))) c.filter.ensures.closure (λ x b q k. search (rules, tests))))
