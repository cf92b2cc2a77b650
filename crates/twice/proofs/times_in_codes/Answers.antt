-- `twice::times_in_codes` meets its contract.
use Rattle.std.proofs.Common.{rules}
use Rattle.twice.proofs.Counts.{codes_way}
use Rattle.twice.proofs.times_in_codes.Goals as goal

pub returns : goal.returns
returns c = search (rules, codes_way)
