-- `rule_tests::sizes::left_part` meets its contract.
use Rattle.rule_tests.proofs.Ways.{left_is}
use borrow.Author.Rules.{rules}
use Rattle.rule_tests.proofs.sizes.left_part.Goals as goal

pub returns : goal.returns
returns c = search (rules, left_is)
