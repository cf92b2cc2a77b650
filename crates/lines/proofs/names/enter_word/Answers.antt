-- `enter_word`: one law for each way out. Assumes nothing.
use Rattle.std.proofs.Common.{rules}
use Rattle.lines.proofs.Entering.{word_agent, word-name}
use Rattle.lines.proofs.names.enter_word.Goals as goal

pub returns-then-declared : goal.returns-then-declared
returns-then-declared c = search (rules, word_agent)

pub returns-else-declared : goal.returns-else-declared
returns-else-declared c = search (rules, word-name)
