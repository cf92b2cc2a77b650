-- `printing::leaves::put_two` meets its contract.
use Rattle.printing.proofs.Stores.{two_puts}
use Rattle.std.proofs.Common.{rules}
use Rattle.printing.proofs.leaves.put_two.Goals as goal

pub returns : goal.returns
returns c = search (rules, two_puts)
