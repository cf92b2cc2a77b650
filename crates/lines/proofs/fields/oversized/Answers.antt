-- `oversized`: one law for each way out. Assumes nothing.
use Rattle.std.proofs.Common.{rules}
use Rattle.lines.proofs.Ways.{oversized_none, oversized_some}
use Rattle.lines.proofs.fields.oversized.Goals as goal

pub returns-then-k-field_count : goal.returns-then-k-field_count
returns-then-k-field_count c = search (rules, oversized_some)

pub returns-else-k-field_count : goal.returns-else-k-field_count
returns-else-k-field_count c = search (rules, oversized_none)
