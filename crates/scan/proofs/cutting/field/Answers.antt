-- `scan::cutting::field` meets its contract.
use Rattle.std.proofs.Common.{rules}
use Rattle.scan.proofs.Cuts.{start_fits, field_found}
use Rattle.scan.proofs.cutting.field.Goals as goal

pub field_at-requires : goal.field_at-requires
field_at-requires c = search (rules, start_fits)

pub returns : goal.returns
returns c = search (rules, field_found)
