-- `loading::write_cells` meets its contract.
use Rattle.loading.proofs.Lays.{cell_more, cell_end}
use Rattle.std.proofs.Common.{rules}
use Rattle.loading.proofs.write_cells.Goals as goal

pub loop-c-preserved : goal.loop-c-preserved
loop-c-preserved c = search (rules, cell_more)

pub returns : goal.returns
returns c = search (rules, cell_end)
