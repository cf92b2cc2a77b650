-- `loading::symbol_on` meets its contract.
use Rattle.std.proofs.Common.{rules}
use Rattle.loading.proofs.Lays.{symbol_way}
use Rattle.loading.proofs.symbol_on.Goals as goal

pub returns : goal.returns
returns c = search (rules, symbol_way)
