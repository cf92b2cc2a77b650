-- `times_in`: the words are the pieces with some byte. Assumes nothing.
use Rattle.std.specs.Prelude.{◌&&◌}
use Rattle.std.proofs.Common.{rules, tests}
use Rattle.std.proofs.lemmas.Iterator.Consumers.{count_from_yields_List, YieldsList-at, YieldsList-from_filter}
use Rattle.std.proofs.lemmas.Iterator.Splits.{YieldsList-from_slice_split}
use Rattle.texts.specs.Bytes.{same, times}
use Rattle.lines.specs.Laws.Splits.{gap, full, count_words}
use Rattle.lines.proofs.words.times_in.Goals as goal

pub returns : goal.returns
unfolding times
returns c =
    count_words (same c.args.word.now) c.args.text.now
    (count_from_yields_List c.filter.result _ c.count.ensures.ran
    (YieldsList-from_filter _ (λ w. full w && same c.args.word.now w)
    (YieldsList-at c.filter.ensures.source (YieldsList-from_slice_split _ gap c.args.text.now c.split.ensures.rest c.split.ensures.done c.split.ensures.closure (λ x b q k. search (rules, tests))))
    c.filter.ensures.closure
    (λ x b q k. search (rules, tests))))
