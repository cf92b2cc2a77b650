-- `misspelt_field`: a field is misspelt where the pass finds a wrong byte. Assumes nothing.
use Rattle.std.proofs.Common.{rules}
use Rattle.lines.proofs.Ways.{spelt}
use Rattle.lines.proofs.fields.misspelt_field.Goals as goal

pub returns : goal.returns
returns c = search (rules, spelt)
