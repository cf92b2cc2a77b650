-- `printing::leaves::put_letters` meets its contract.
use Rattle.printing.proofs.Stores.{Lettering}
use Rattle.printing.proofs.leaves.put_letters.Given as goal

abbrev pub invariant-loop-j : goal.invariant-loop-j
invariant-loop-j l = Lettering l.table l.s l.at l.initial.out l.j l.p l.out
