-- `wiring::rename` meets its contract.
use Rattle.std.proofs.Common.{rules}
use Rattle.wiring.proofs.Keeps.{rename_way}
use Rattle.wiring.proofs.rename.Goals as goal

pub returns : goal.returns
returns c = search (rules, rename_way)
