-- `rule_tests::words::after_word` meets its contract.
use Rattle.rule_tests.proofs.Loops.{after_is}
use Rattle.rule_tests.proofs.words.after_word.Goals as goal

pub returns : goal.returns
returns c = after_is _ _ _ c.word_start-from.ensures _ c.word_end.ensures
