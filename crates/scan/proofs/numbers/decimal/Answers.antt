-- `scan::numbers::decimal` meets its contract.
use Rattle.std.proofs.Common.{rules}
use Rattle.scan.proofs.Digits.{number_digits, is_none, is_some}
use Rattle.scan.proofs.numbers.decimal.Goals as goal

pub value-requires : goal.value-requires
value-requires c = search (rules, number_digits)

pub returns-then-is_number : goal.returns-then-is_number
returns-then-is_number c = search (rules, is_some)

pub returns-else-is_number : goal.returns-else-is_number
returns-else-is_number c = search (rules, is_none)
