-- `report::fields::put_field` meets its contract.
use Rattle.report.specs.Begun.{tab-then}
use Rattle.std.proofs.Common.{rules}
use Rattle.report.proofs.fields.put_field.Goals as goal

pub returns : goal.returns
returns c = search (rules, tab-then)
