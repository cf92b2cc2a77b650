-- `scan::numbers::is_number` meets its contract.
use Rattle.std.proofs.Common.{rules}
use Rattle.scan.proofs.Digits.{number_empty, number_one, number_all, number_zero, number_long}
use Rattle.scan.proofs.numbers.is_number.Goals as goal

pub returns-in-0 : goal.returns-in-0
returns-in-0 c = search (rules, number_empty)

pub returns-in-1 : goal.returns-in-1
returns-in-1 c = search (rules, number_one)

pub returns-then-field-ne48 : goal.returns-then-field-ne48
returns-then-field-ne48 c = search (rules, number_all)

pub returns-else-field-ne48 : goal.returns-else-field-ne48
returns-else-field-ne48 c = search (rules, number_zero)

pub returns-in_default : goal.returns-in_default
returns-in_default c = search (rules, number_long)
