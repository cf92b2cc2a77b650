-- `loading::write_names` meets its contract.
use Rattle.loading.proofs.Lays.{lay_on, lay_end}
use Rattle.std.proofs.Common.{rules}
use Rattle.loading.proofs.write_names.Goals as goal

pub loop-x-preserved : goal.loop-x-preserved
loop-x-preserved c = search (rules, lay_on)

pub returns : goal.returns
returns c = search (rules, lay_end)
