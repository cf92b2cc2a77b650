-- `printing::terms::name_two` meets its contract.
use Rattle.printing.proofs.Names.{two_way}
use Rattle.std.proofs.Common.{rules}
use Rattle.printing.proofs.terms.name_two.Goals as goal

pub returns : goal.returns
returns c = rw c.from.ensures (search (rules, two_way))
