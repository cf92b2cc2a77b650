-- `coding::settling::settle` meets its contract.
use Rattle.coding.proofs.Settled.{settled-nine, settled-ten, settled_put}
use Rattle.std.proofs.Common.{rules}
use Rattle.coding.proofs.settling.settle.Goals as goal

pub returns-then-has_rule : goal.returns-then-has_rule
returns-then-has_rule c = search (rules, settled-nine)

pub returns-then-one_sided : goal.returns-then-one_sided
returns-then-one_sided c = search (rules, settled-ten)

pub returns : goal.returns
returns c = search (rules, settled_put)
