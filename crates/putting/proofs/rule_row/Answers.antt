-- `putting::rule_row` meets its contract.
use Rattle.std.proofs.Common.{rules, arith}
use Rattle.putting.proofs.Stores.{filling_none, filling_more, filling_done}
use Rattle.putting.proofs.rule_row.Goals as goal

pub loop-p-init : goal.loop-p-init
loop-p-init c = filling_none _

pub loop-p-preserved : goal.loop-p-preserved
loop-p-preserved c = search (rules, filling_more)

pub returns : goal.returns
returns c = filling_done _ _ _ _ c.loop-p.invariant (omega arith)
