-- `twice::lines_before` meets its contract.
use Rattle.std.proofs.Common.{arith}
use Rattle.twice.proofs.Counts.{pass_way}
use Rattle.twice.proofs.lines_before.Goals as goal

pub returns : goal.returns
returns c =
    pass_way c.args.x c.args.marks.now c.args.n c.unwrap_or.result c.first_past.result (omega arith) c.first_past.ensures c.unwrap_or.ensures
