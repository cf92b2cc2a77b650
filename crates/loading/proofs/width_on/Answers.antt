-- `loading::width_on` meets its contract.
use Rattle.std.proofs.Common.{rules}
use Rattle.loading.proofs.Lays.{width_way}
use Rattle.loading.proofs.width_on.Goals as goal

pub returns : goal.returns
returns c = search (rules, width_way)
