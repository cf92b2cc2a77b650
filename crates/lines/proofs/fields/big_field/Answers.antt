-- `big_field`: the place is below the length exactly where an identifier is too big. Assumes nothing.
use Rattle.lines.proofs.Ways.{field-big}
use borrow.Author.Rules.{rules}
use borrow.Author.Rules.{rules}
use Rattle.lines.proofs.fields.big_field.Goals as goal

pub returns : goal.returns
returns c = search (rules, field-big)
