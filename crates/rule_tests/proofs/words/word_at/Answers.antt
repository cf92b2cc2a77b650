-- `rule_tests::words::word_at` meets its contract.
use Rattle.rule_tests.proofs.Loops.{after_start, word_is}
use borrow.Author.Rules.{rules}
use Rattle.rule_tests.proofs.words.word_at.Goals as goal

pub overflow_sub-to : goal.overflow_sub-to
overflow_sub-to c = search (rules, after_start)

pub returns : goal.returns
returns c = search (rules, word_is)
