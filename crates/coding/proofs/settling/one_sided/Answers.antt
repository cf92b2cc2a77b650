-- `coding::settling::one_sided` meets its contract.
use Rattle.std.proofs.Common.{rules}
use Rattle.coding.proofs.Settled.{one_self}
use Rattle.coding.proofs.settling.one_sided.Goals as goal

pub returns-then-rule : goal.returns-then-rule
returns-then-rule c = search (rules, one_self)
