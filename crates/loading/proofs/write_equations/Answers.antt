-- `loading::write_equations` meets its contract.
use Rattle.loading.proofs.Lays.{stack_none, stack_more}
use Rattle.std.proofs.Common.{rules}
use Rattle.loading.proofs.write_equations.Goals as goal

pub loop-k-init : goal.loop-k-init
loop-k-init c = search (rules, stack_none)

pub loop-k-preserved : goal.loop-k-preserved
loop-k-preserved c = search (rules, stack_more)
