-- `wiring::set_name` meets its contract.
use Rattle.std.proofs.Common.{rules}
use Rattle.wiring.proofs.Keeps.{renamable, set_way}
use Rattle.wiring.proofs.set_name.Goals as goal

pub rename-requires : goal.rename-requires
rename-requires c = search (rules, renamable)

pub returns : goal.returns
returns c = search (rules, set_way)
