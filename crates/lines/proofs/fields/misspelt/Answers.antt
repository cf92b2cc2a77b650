-- `misspelt`: one law for each way out. Assumes nothing.
use Rattle.std.proofs.Common.{rules}
use Rattle.lines.proofs.Ways.{misspelt_none, misspelt_some}
use Rattle.lines.proofs.fields.misspelt.Goals as goal

pub returns-then-k-field_count : goal.returns-then-k-field_count
returns-then-k-field_count c = search (rules, misspelt_some)

pub returns-else-k-field_count : goal.returns-else-k-field_count
returns-else-k-field_count c = search (rules, misspelt_none)
