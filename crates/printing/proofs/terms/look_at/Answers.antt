-- `printing::terms::look_at` meets its contract.
use Rattle.printing.proofs.Names.{looks_numbered, looks_bare, looks_joined, looks_tied}
use Rattle.std.proofs.Common.{rules}
use Rattle.printing.proofs.terms.look_at.Goals as goal

pub returns-then-k-ne0 : goal.returns-then-k-ne0
returns-then-k-ne0 c = search (rules, looks_numbered)

pub returns-then-word-lt2 : goal.returns-then-word-lt2
returns-then-word-lt2 c = search (rules, looks_bare)

pub returns-in-Name : goal.returns-in-Name
returns-in-Name c = search (rules, looks_joined)

pub returns-in-Cell : goal.returns-in-Cell
returns-in-Cell c = search (rules, looks_tied)
