-- `printing::terms::name_one` meets its contract.
use Rattle.printing.proofs.Names.{one_way}
use Rattle.std.proofs.Common.{rules}
use Rattle.printing.proofs.terms.name_one.Goals as goal

pub returns : goal.returns
returns c = rw c.from.ensures (search (rules, one_way))
