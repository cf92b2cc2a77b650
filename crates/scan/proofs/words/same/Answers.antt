-- `scan::words::same` meets its contract.
use Rattle.std.proofs.Common.{rules}
use Rattle.scan.proofs.Compare.{same_told}
use Rattle.scan.proofs.words.same.Goals as goal

pub returns : goal.returns
returns c = search (rules, same_told)
