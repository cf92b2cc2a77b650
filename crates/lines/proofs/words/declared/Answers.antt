-- `declared`: a word that is found is declared. Assumes nothing.
use Rattle.std.proofs.Common.{rules}
use Rattle.lines.proofs.Ways.{word_known}
use Rattle.lines.proofs.words.declared.Goals as goal

pub returns : goal.returns
returns c = search (rules, word_known)
