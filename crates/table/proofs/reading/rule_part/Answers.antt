-- `table::reading::rule_part` meets its contract.
use Rattle.std.proofs.Common.{◌∙◌}
use Rattle.table.proofs.Laws.{row_cut}
use Rattle.table.proofs.reading.rule_part.Goals as goal

pub returns : goal.returns
returns c = let s = c in s.in-Ok.ensures.1.same ∙ (row_cut _ s.args.k s.from.result s.from.ensures s.told-table s.requires).0
