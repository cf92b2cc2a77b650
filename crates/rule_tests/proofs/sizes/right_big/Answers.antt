-- `rule_tests::sizes::right_big` meets its contract.
use Rattle.std.proofs.Common.{rules}
use Rattle.rule_tests.proofs.Ways.{right_fields, right_cells, right_names}
use Rattle.rule_tests.proofs.sizes.right_big.Goals as goal

pub returns-then-field_count : goal.returns-then-field_count
returns-then-field_count c = search (rules, right_fields)

pub returns-then-cells_in-gt-RULE_CELLS : goal.returns-then-cells_in-gt-RULE_CELLS
returns-then-cells_in-gt-RULE_CELLS c = search (rules, right_cells)

pub returns-else-cells_in-gt-RULE_CELLS : goal.returns-else-cells_in-gt-RULE_CELLS
returns-else-cells_in-gt-RULE_CELLS c = search (rules, right_names)
