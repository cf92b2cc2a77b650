-- `printing::leaves::put_numeral` meets its contract.
use Rattle.printing.proofs.Stores.{one_digit, two_digits, three-digits, four-digits}
use Rattle.std.proofs.Common.{rules}
use Rattle.printing.proofs.leaves.put_numeral.Goals as goal

pub returns-then-k-lt10 : goal.returns-then-k-lt10
returns-then-k-lt10 c = search (rules, one_digit)

pub returns-then-k-lt100 : goal.returns-then-k-lt100
returns-then-k-lt100 c = search (rules, two_digits)

pub returns-then-k-lt1000 : goal.returns-then-k-lt1000
returns-then-k-lt1000 c = search (rules, three-digits)

pub returns : goal.returns
returns c = search (rules, four-digits)
