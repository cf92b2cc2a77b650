-- What the parts of the reader promise: the answer for lines, and the table that they have made where they are accepted.
use Rattle.std.specs.Prelude.{ℕ, ◌≡◌, List, Result, Ok, Err}
use Rattle.texts.specs.Books.{Book}
use Rattle.texts.specs.Answers.{OfText, accepted, refused}
use Rattle.texts.specs.RuleText.{Counts, counted}
use Rattle.table.specs.Layout.{table_bytes}
use Rattle.parts.specs.Faults.{fault_number}
use Rattle.parts.specs.declared.faults.Fault.{Fault}
use Rattle.parts.specs.declared.faults.Refusal.{Refusal}
use Rattle.lines.specs.declared.Counts.{Counts as Read}

abbrev pub Answer : Type 0
Answer = Result (Unit {0}) Refusal

-- what is wrong with the first line
abbrev pub first : Fault → Refusal
first f = record { fault = f; line = 1 }

abbrev pub refuses : Fault → ℕ → Answer
refuses f k = Err (record { fault = f; line = k })

pub data Told (x : OfText Book) (r : Answer) (made : List ℕ) : Type 0 where
  yes : (b : Book) → x ≡ accepted b → r ≡ Ok tt → made ≡ table_bytes b → Told x r made
  no : (f : Fault) (k : ℕ) → x ≡ refused (fault_number f) k → r ≡ refuses f k → Told x r made

-- the counts of a header, as the texts have them
abbrev pub counts : Read → Counts
counts c = record { upper = c.upper; lower = c.lower }

-- Number 11, of any book that the table is of.
pub record Compared (c : Counts) (r : Answer) (made : List ℕ) : Type 0 where
  pub so : (b : Book) → made ≡ table_bytes b → Told (counted c b) r made
