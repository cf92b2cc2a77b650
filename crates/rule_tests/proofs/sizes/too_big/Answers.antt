-- `rule_tests::sizes::too_big` meets its contract.
use Rattle.std.proofs.Common.{rules}
use Rattle.rule_tests.proofs.Ways.{big-nodes, big_right, big_book}
use Rattle.rule_tests.proofs.sizes.too_big.Goals as goal

pub returns-then-oversized : goal.returns-then-oversized
returns-then-oversized c = search (rules, big-nodes)

pub returns-then-right_big : goal.returns-then-right_big
returns-then-right_big c = search (rules, big_right)

pub returns-else-right_big : goal.returns-else-right_big
returns-else-right_big c = search (rules, big_book)
