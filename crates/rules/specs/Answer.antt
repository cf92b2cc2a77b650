-- What the reader of rule texts answers and what it leaves of the lent table: the definitions that its promise cites.
use Rattle.std.specs.Prelude.{ℕ, List, Result, Ok, Err}
use Rattle.std.proofs.Math.Option.{Option, none, some}
use Rattle.texts.specs.Books.{Book}
use Rattle.texts.specs.Answers.{OfText, accepted, refused}
use Rattle.texts.specs.RuleText.{read_rules}
use Rattle.table.specs.Layout.{table_bytes}
use Rattle.parts.specs.Faults.{fault_number}
use Rattle.parts.specs.declared.faults.Refusal.{Refusal as Told}

-- "Text refusals return the number and line (from 1; 0 for number 1)."
pub record Refusal : Type 0 where
  pub number : ℕ
  pub line : ℕ

-- Document 01's number and line of an answer; none where the text is accepted.
unfoldable pub refusal : Result (Unit {0}) Told → Option Refusal
refusal (Ok a) = none
refusal (Err r) = some (record { number = fault_number r.fault; line = r.line })

-- What a call leaves: the number and line that it answers, if any, and every byte of the lent table.
pub record Leaves : Type 0 where
  pub said : Option Refusal
  pub table : List ℕ

unfoldable pub leaves : Result (Unit {0}) Told → List ℕ → Leaves
leaves r w = record { said = refusal r; table = w }

-- Of a text that means a book the lent table becomes the table of that book, whatever it was. "All refusals leave lent
-- table [..] unchanged."
unfoldable pub leaves_by : OfText Book → List ℕ → Leaves
leaves_by (accepted b) w = record { said = none; table = table_bytes b }
leaves_by (refused n k) w = record { said = some (record { number = n; line = k }); table = w }

unfoldable pub rules_read : List ℕ → List ℕ → Leaves
rules_read text table = leaves_by (read_rules text) table
