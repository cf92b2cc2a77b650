-- `report::fields::put_number` meets its contract. The measure is the number.
use Rattle.std.proofs.Common.{rules}
use Rattle.report.specs.Stores.{number_one, number_more, one_fits, tenth_fits, tenth_falls, last_fits, numbers-long}
use Rattle.report.proofs.fields.+put_number.Goals as goal

pub put-requires : goal.put-requires
put-requires t c = search (rules, one_fits)

pub returns-then-n-lt10 : goal.returns-then-n-lt10
returns-then-n-lt10 t c = search (rules, number_one)

pub put_number-p-requires : goal.put_number-p-requires
put_number-p-requires t c = search (rules, tenth_fits, tenth_falls)

pub put-requires-2 : goal.put-requires-2
put-requires-2 t c = search (rules, last_fits)

pub shape_of-out : goal.shape_of-out
shape_of-out t c = search (rules, numbers-long)

pub returns : goal.returns
returns t c = search (rules, number_more)
