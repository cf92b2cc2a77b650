-- `coding::making::rule_of` meets its contract.
use Rattle.coding.proofs.Made.{rule-made}
use Rattle.std.proofs.Common.{rules}
use Rattle.coding.proofs.making.rule_of.Goals as goal

pub returns : goal.returns
returns c = search (rules, rule-made)
