-- `loading::write_arguments` meets its contract.
use Rattle.loading.proofs.Lays.{lay_more, lay_end}
use Rattle.std.proofs.Common.{rules}
use Rattle.loading.proofs.write_arguments.Goals as goal

pub loop-k-preserved : goal.loop-k-preserved
loop-k-preserved c = search (rules, lay_more)

pub returns : goal.returns
returns c = search (rules, lay_end)
