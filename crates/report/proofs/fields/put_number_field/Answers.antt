-- `report::fields::put_number_field` meets its contract.
use Rattle.report.specs.Begun.{tab-then, tab-number, tab-room}
use Rattle.std.proofs.Common.{rules}
use Rattle.report.proofs.fields.put_number_field.Goals as goal

pub put_number-requires : goal.put_number-requires
put_number-requires c = search (rules, tab-number)

pub returns : goal.returns
returns c = search (rules, tab-then, tab-room)
