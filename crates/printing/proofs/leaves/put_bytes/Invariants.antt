-- `printing::leaves::put_bytes` meets its contract.
use Rattle.printing.proofs.Stores.{Storing}
use Rattle.printing.proofs.leaves.put_bytes.Given as goal

abbrev pub invariant-loop-b : goal.invariant-loop-b
invariant-loop-b l = Storing l.word l.at l.initial.out l.b-index l.p l.out
