-- `putting::rule_row` meets its contract.
use Rattle.table.specs.Layout.{agents_in, entry_of, rule_bytes}
use Rattle.putting.proofs.Stores.{Filling}
use Rattle.putting.proofs.rule_row.Given as goal

abbrev pub invariant-loop-p : goal.invariant-loop-p
invariant-loop-p l = Filling (rule_bytes (entry_of (agents_in l.table) l.row)) l.b-items l.p
