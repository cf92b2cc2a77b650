-- `header`: one law for each way out. Assumes nothing.
use Rattle.std.proofs.Common.{rules}
use Rattle.lines.proofs.Ways.{header-count, header_other, header_read}
use Rattle.lines.proofs.fields.header.Goals as goal
use Rattle.lines.proofs.fields.header.Goals.{else-field_count-eq3-via-then-field_count-eq3+else-same, else-field_count-eq3-via-else-field_count-eq3}

pub returns-then-same : goal.returns-then-same
returns-then-same c = search (rules, header_read)

pub returns : goal.returns
returns c = elim c.else-field_count-eq3.branch [
  | else-field_count-eq3-via-then-field_count-eq3+else-same w ↦ search (rules, header_other)
  | else-field_count-eq3-via-else-field_count-eq3 w ↦ search (rules, header-count)
]
