-- The answers of the public calls: what was done, or why it was refused.
use Rattle.std.specs.Prelude.{ℕ, Result, Ok, Err}
use Rattle.parts.specs.declared.faults.Fault.{Fault}
use Rattle.parts.specs.declared.faults.Refusal.{Refusal}
use Rattle.machine.specs.declared.calls.Ran.{Ran}
use Rattle.answer.specs.declared.End.{End}

-- A text is accepted, or it is refused for a fault, on a line (0 where no line is at fault).
abbrev pub TextAnswer : Type 0
TextAnswer = Result (Unit {0}) Refusal

abbrev pub refused_on : Fault → ℕ → TextAnswer
refused_on f j = Err (record { fault = f; line = j })

-- A step is made, or it is refused.
abbrev pub StepAnswer : Type 0
StepAnswer = Result (Unit {0}) Fault

-- A run stopped, or it is refused.
abbrev pub RunAnswer : Type 0
RunAnswer = Result Ran Fault

-- An end is read, with the length of its lines, its loops, its stuck pairs and its knot, or that is refused.
abbrev pub EndAnswer : Type 0
EndAnswer = Result End Fault

abbrev pub end_of : (long loops stuck knot : ℕ) → EndAnswer
end_of l n k m = Ok (record { length = l; loops = n; stuck = k; knot = m })
