-- `putting::kept_side` meets its contract.
use Rattle.putting.proofs.Stores.{side-past, side-kept}
use Rattle.std.proofs.Common.{rules}
use Rattle.putting.proofs.kept_side.Goals as goal

pub returns-then-n-p : goal.returns-then-n-p
returns-then-n-p c = search (rules, side-past)

pub returns : goal.returns
returns c = search (rules, side-kept)
