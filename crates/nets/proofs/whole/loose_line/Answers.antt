-- `nets::whole::loose_line` meets its contract.
use Rattle.std.proofs.Common.{rules}
use Rattle.nets.specs.Proofs.Wholes.{loose-yes, loose_no}
use Rattle.nets.proofs.whole.loose_line.Goals as goal

pub returns-then-j-k : goal.returns-then-j-k
returns-then-j-k c = search (rules, loose-yes)

pub returns : goal.returns
returns c = search (rules, loose_no)
