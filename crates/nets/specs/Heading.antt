-- A header's line: its counts, or its fault.
use Rattle.std.specs.Prelude.{ℕ, ◌≡◌, List, Result, Ok, Err}
use Rattle.parts.specs.Faults.{fault_number}
use Rattle.parts.specs.declared.faults.Fault.{Fault}
use Rattle.texts.specs.Books.{word_net}
use Rattle.texts.specs.Answers.{fine, fault}
use Rattle.texts.specs.RuleText.{Counts, header_line}
use Rattle.texts.specs.Bytes.{ended_line}
use Rattle.lines.specs.declared.Counts.{Counts as Read}

-- the counts that the code read
abbrev pub plain : Read → Counts
plain c = record { upper = c.upper; lower = c.lower }

abbrev pub Headed : List ℕ → Result Read Fault → Type 0
Headed line (Ok c) = header_line word_net (ended_line line) ≡ fine (plain c)
Headed line (Err f) = header_line word_net (ended_line line) ≡ fault (fault_number f)
