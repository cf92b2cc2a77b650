-- `loading::write_cell` meets its contract.
use Rattle.loading.proofs.Lays.{cell_way}
use Rattle.std.proofs.Common.{rules}
use Rattle.loading.proofs.write_cell.Goals as goal

pub returns : goal.returns
returns c = search (rules, cell_way)
