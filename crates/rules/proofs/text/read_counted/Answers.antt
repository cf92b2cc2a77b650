-- `rules::text::read_counted` meets its contract: a law for each way out.
use Rattle.std.proofs.Common.{rules}
use Rattle.rules.proofs.Whole.{records-refused, records_compared}
use Rattle.rules.proofs.text.read_counted.Goals as goal

pub returns-in_err-read_records : goal.returns-in_err-read_records
returns-in_err-read_records c = records-refused _ _ _ _ c.read_records.ensures _ c.in_err-read_records.was _ (search rules)

pub returns : goal.returns
returns c = records_compared _ _ _ _ c.read_records.ensures _ c.in_ok-read_records.was _ c.compare.ensures
