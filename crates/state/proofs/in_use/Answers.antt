-- `state::in_use` meets its contract.
use Rattle.std.proofs.Common.{rules}
use Rattle.state.proofs.Counts.{count_way}
use Rattle.state.proofs.in_use.Goals as goal

pub returns : goal.returns
returns c = search (rules, count_way)
