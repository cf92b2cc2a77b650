-- `read_cell`: a cell that takes arguments. Assumes nothing.
use Rattle.std.proofs.Common.{arith}
use Rattle.terms.proofs.Beneath.Heads.{cell-takes}
use Rattle.terms.proofs.read_cell.Goals as goal

pub returns : goal.returns
returns c = cell-takes _ _ _ _ c.cells-c.ensures (omega arith) (omega arith) _ c.open_cell.ensures c.if-arity-eq0.false
