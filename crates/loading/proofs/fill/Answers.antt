-- `loading::fill` meets its contract.
use Rattle.loading.proofs.Filled.{fill_way}
use Rattle.std.proofs.Common.{rules}
use Rattle.loading.proofs.fill.Goals as goal

pub returns : goal.returns
returns c = search (rules, fill_way)
