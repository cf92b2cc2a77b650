-- `printing::leaves::put_letters` meets its contract.
use Rattle.printing.proofs.Stores.{letters_begin, letters-stop, letters_more, letters_end}
use Rattle.std.proofs.Common.{rules}
use Rattle.printing.proofs.leaves.put_letters.Goals as goal

pub loop-j-init : goal.loop-j-init
loop-j-init c = search (rules, letters_begin)

pub returns-then-b-eq0 : goal.returns-then-b-eq0
returns-then-b-eq0 c = search (rules, letters-stop)

pub loop-j-preserved : goal.loop-j-preserved
loop-j-preserved c = search (rules, letters_more)

pub returns : goal.returns
returns c = search (rules, letters_end)
