-- `from_field`: all that is left of the line. Assumes nothing.
use Rattle.lines.proofs.Ways.{part-from}
use borrow.Author.Rules.{rules}
use borrow.Author.Rules.{rules}
use Rattle.lines.proofs.fields.from_field.Goals as goal

pub returns : goal.returns
returns c = search (rules, part-from)
