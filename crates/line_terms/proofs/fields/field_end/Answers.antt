-- `field_end`: the place of the next tab, counted from `at`. Assumes nothing.
use Rattle.std.proofs.Common.{arith}
use Rattle.line_terms.proofs.Fielding.{end_within, end_way}
use Rattle.line_terms.proofs.fields.field_end.Goals as goal

pub overflow_add-result : goal.overflow_add-result
overflow_add-result c = record { fits = let z = end_within _ _ _ _ c.find.ensures c.requires.0 c.requires.1 in omega arith }

pub returns : goal.returns
returns c = end_way _ _ _ _ c.find.ensures c.requires.0 c.requires.1
