-- What the call that reads the end answers, and what it leaves in the output.
use Rattle.std.proofs.Common.{cond, List, ◌++◌, ℕ, zero, suc, leb, length, drop, Result, Ok, Err}
use Rattle.model.specs.State.{St}
use Rattle.table.specs.Layout.{agents_in}
use Rattle.state.specs.Layout.{view}
use Rattle.sound.specs.Lent.{under}
use Rattle.lent.specs.Decided.{if_sound}
use Rattle.answers.specs.Printing.{Written, answer_written}
use Rattle.parts.specs.Faults.{fault_number}
use Rattle.parts.specs.declared.faults.Fault.{Fault}
use Rattle.answer.specs.declared.End.{End}

-- Document 01's number of a refusal; or the length of the lines, the loops, the stuck pairs and the knot.
pub data Told : Type 0 where
  number : ℕ → Told
  lines : (long loops stuck knot : ℕ) → Told

abbrev pub end_told : Result End Fault → Told
end_told (Ok e) = lines e.length e.loops e.stuck e.knot
end_told (Err f) = number (fault_number f)

-- What is told, and the output at exit.
pub record Called : Type 0 where
  pub told : Told
  pub out : List ℕ

abbrev pub given : Told → List ℕ → Called
given t o = record { told = t; out = o }

-- "The output buffer takes the `face` and `eq` lines with their newlines; its other bytes stay." 15: "answer longer than the output buffer".
unfoldable pub fitted : St → Written → List ℕ → Called
fitted s W o =
    cond
    (leb (length W.bytes) (length o))
    (given (lines (length W.bytes) s.loops s.stuck.used W.after.left) (W.bytes ++ drop (length W.bytes) o))
    (given (number 15) o)

-- 14: "answer asked for while equations wait".
unfoldable pub ended : St → Written → List ℕ → Called
ended s W o = elim s.waiting.used [ zero ↦ fitted s W o | suc n ↦ given (number 14) o ]

-- Of a lent table, a lent state and an output. 16: "rule table or state lent is not sound"; it comes first, then 14, then
-- 15. "All refusals leave lent table, state and output unchanged."
unfoldable pub called : List ℕ → List ℕ → List ℕ → Called
called w v o =
    if_sound w v (ended (view v) (answer_written (agents_in w) (under w) (view v)) o) (given (number 16) o)
