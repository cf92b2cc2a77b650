-- `stands_in`: the words are the pieces with some byte. Assumes nothing.
use Rattle.std.specs.Prelude.{◌&&◌}
use Rattle.std.proofs.Common.{rules, tests}
use Rattle.std.proofs.lemmas.Iterator.Search.{any_from_yields_List}
use Rattle.std.proofs.lemmas.Iterator.Splits.{YieldsList-from_slice_split}
use Rattle.texts.specs.Bytes.{same, among}
use Rattle.lines.specs.Laws.Splits.{gap, full, any_word}
use Rattle.lines.proofs.words.stands_in.Goals as goal

pub returns : goal.returns
unfolding among
returns c =
    any_word (same c.args.word.now) c.args.text.now
    (any_from_yields_List (λ w. full w && same c.args.word.now w) _ _ _ c.any.ensures.ran
    (YieldsList-from_slice_split _ gap c.args.text.now c.split.ensures.rest c.split.ensures.done c.split.ensures.closure (λ x b q k. search (rules, tests)))
    (λ x b q k. search (rules, tests)))
