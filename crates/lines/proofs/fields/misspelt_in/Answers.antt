-- `misspelt_in`: the fields are the parts between the tabs. Assumes nothing.
use Rattle.std.proofs.Common.{rules, tests}
use Rattle.std.proofs.lemmas.Iterator.Search.{any_from_yields_List}
use Rattle.std.proofs.lemmas.Iterator.Splits.{YieldsList-from_slice_split}
use Rattle.texts.specs.Passes.{misspelt}
use Rattle.lines.specs.Laws.Splits.{tab, any_field}
use Rattle.lines.proofs.fields.misspelt_in.Goals as goal

pub returns : goal.returns
returns c =
    any_field misspelt c.args.part.now
    (any_from_yields_List misspelt _ _ _ c.any.ensures.ran
    (YieldsList-from_slice_split _ tab c.args.part.now c.split.ensures.rest c.split.ensures.done c.split.ensures.closure (λ x b q k. search (rules, tests)))
    (λ x b q k. search (rules, tests)))
