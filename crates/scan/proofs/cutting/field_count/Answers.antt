-- `scan::cutting::field_count` meets its contract.
use Rattle.std.proofs.Common.{rules}
use Rattle.scan.proofs.Cuts.{fields_count}
use Rattle.scan.proofs.cutting.field_count.Goals as goal

pub returns : goal.returns
returns c = search (rules, fields_count)
