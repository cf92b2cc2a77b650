-- `printing::leaves::put_bytes` meets its contract.
use Rattle.printing.proofs.Stores.{storing_none, storing_more, storing_end}
use Rattle.std.proofs.Common.{rules}
use Rattle.printing.proofs.leaves.put_bytes.Goals as goal

pub loop-b-init : goal.loop-b-init
loop-b-init c = search (rules, storing_none)

pub loop-b-preserved : goal.loop-b-preserved
loop-b-preserved c = search (rules, storing_more)

pub returns : goal.returns
returns c = search (rules, storing_end)
