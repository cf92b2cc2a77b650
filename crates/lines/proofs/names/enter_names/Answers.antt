-- `enter_names`: the words before the place are entered. Assumes nothing.
use Rattle.lines.proofs.Loops.{word-order, word_less}
use Rattle.lines.proofs.Entering.{entering_full, entering_none, entering_end, entering_last, entering_more, entering_stop}
use borrow.Author.Rules.{rules}
use Rattle.lines.proofs.names.enter_names.Goals as goal

pub returns-then-limit-names : goal.returns-then-limit-names
returns-then-limit-names c = search (rules, entering_full)

pub loop-at-init : goal.loop-at-init
loop-at-init c = search (rules, entering_none)

pub returns-then-words-s : goal.returns-then-words-s
returns-then-words-s c = search (rules, entering_last)

pub enter_word-requires : goal.enter_word-requires
enter_word-requires c = search (rules, word-order)

pub returns-then-not-enter_word : goal.returns-then-not-enter_word
returns-then-not-enter_word c = search (rules, entering_stop)

pub loop-at-smaller : goal.loop-at-smaller
loop-at-smaller c = search (rules, word_less)

pub loop-at-preserved : goal.loop-at-preserved
loop-at-preserved c = search (rules, entering_more)

pub returns : goal.returns
returns c = search (rules, entering_end)
