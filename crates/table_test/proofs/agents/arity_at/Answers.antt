-- `table_test::agents::arity_at` meets its contract.
use Rattle.std.proofs.Common.{rules}
use Rattle.table_test.proofs.Agreed.{arity_way}
use Rattle.table_test.proofs.agents.arity_at.Goals as goal

pub returns : goal.returns
returns c = search (rules, arity_way)
