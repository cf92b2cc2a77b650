-- `stuck_pairs::no_rule` meets its contract.
use Rattle.std.proofs.Common.{rules}
use Rattle.stuck_pairs.proofs.Stuck.{rule_none}
use Rattle.stuck_pairs.proofs.no_rule.Goals as goal

pub returns : goal.returns
returns c = search (rules, rule_none)
