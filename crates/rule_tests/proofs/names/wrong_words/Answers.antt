-- `rule_tests::names::wrong_words`: the words are the pieces with some byte.
use Rattle.std.specs.Prelude.{◌&&◌}
use Rattle.std.proofs.Common.{rules, tests}
use Rattle.std.proofs.lemmas.Iterator.Search.{any_from_yields_List}
use Rattle.std.proofs.lemmas.Iterator.Splits.{YieldsList-from_slice_split}
use Rattle.scan.specs.Words.{words_in}
use Rattle.terms.specs.Agents.{agents_of}
use Rattle.lines.specs.Laws.Splits.{gap, full, any_word}
use Rattle.rule_tests.specs.Words.{wrong_word}
use Rattle.rule_tests.proofs.names.wrong_words.Goals as goal

pub returns : goal.returns
returns c =
    any_word (wrong_word (agents_of c.args.agents.now) (words_in c.args.left.now) (words_in c.args.right.now)) c.args.rest.now
    (any_from_yields_List (λ w. full w && wrong_word (agents_of c.args.agents.now) (words_in c.args.left.now) (words_in c.args.right.now) w) _ _ c.any.result c.any.ensures.ran
    (YieldsList-from_slice_split _ gap c.args.rest.now c.split.ensures.rest c.split.ensures.done c.split.ensures.closure (λ x b q k. search (rules, tests)))
    (λ x b q k. search (rules, tests)))
