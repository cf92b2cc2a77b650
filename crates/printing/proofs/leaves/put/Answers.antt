-- `printing::leaves::put` meets its contract.
use Rattle.printing.proofs.Stores.{put_in, put_past}
use Rattle.std.proofs.Common.{rules}
use Rattle.printing.proofs.leaves.put.Goals as goal
use Rattle.printing.proofs.leaves.put.Goals.{then-at-out, else-at-out}

pub returns : goal.returns
returns c =
    elim c.if-at-out.branch [
      | then-at-out w ↦ rw w.out-is (search (rules, put_in))
      | else-at-out w ↦ rw w.out-is (search (rules, put_past))
    ]
