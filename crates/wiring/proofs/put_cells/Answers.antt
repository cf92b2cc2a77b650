-- `wiring::put_cells` meets its contract.
use Rattle.std.proofs.Common.{rules}
use Rattle.wiring.proofs.Wires.{put_way}
use Rattle.wiring.proofs.put_cells.Goals as goal

pub returns : goal.returns
returns c = search (rules, put_way)
