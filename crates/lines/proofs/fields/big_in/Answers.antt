-- `big_in`: the fields are the parts between the tabs. Assumes nothing.
use Rattle.std.proofs.Common.{rules, tests}
use Rattle.std.proofs.lemmas.Iterator.Search.{any_from_yields_List}
use Rattle.std.proofs.lemmas.Iterator.Splits.{YieldsList-from_slice_split}
use Rattle.lines.specs.Fields.{too_big}
use Rattle.lines.specs.Laws.Splits.{tab, any_field}
use Rattle.lines.proofs.fields.big_in.Goals as goal

pub returns : goal.returns
returns c =
    any_field too_big c.args.part.now
    (any_from_yields_List too_big _ _ _ c.any.ensures.ran
    (YieldsList-from_slice_split _ tab c.args.part.now c.split.ensures.rest c.split.ensures.done c.split.ensures.closure (λ x b q k. search (rules, tests)))
    (λ x b q k. search (rules, tests)))
