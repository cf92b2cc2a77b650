-- `loading::equation_on` meets its contract.
use Rattle.std.proofs.Common.{rules}
use Rattle.loading.proofs.Lays.{equation_way}
use Rattle.loading.proofs.equation_on.Goals as goal

pub returns : goal.returns
returns c = search (rules, equation_way, c.fits-codes)
