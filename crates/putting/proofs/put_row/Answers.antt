-- `putting::put_row` meets its contract.
use Rattle.std.proofs.Common.{rules}
use Rattle.table.proofs.Storing.{stored}
use Rattle.putting.proofs.put_row.Goals as goal

pub returns : goal.returns
returns c = search (rules, stored)
