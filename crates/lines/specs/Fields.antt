-- Fields of a line: a header's counts, and a field with an identifier that is too big.
use Rattle.std.specs.Prelude as Prelude
use Rattle.std.specs.Prelude.{ℕ, Bool, cond, List, [], length, drop, leb}
use Rattle.std.proofs.Math.Option.{Option, none, some}
use Rattle.texts.specs.Bytes.{Word, any, fields, number_of}
use Rattle.texts.specs.Answers.{◌>>=◌}
use Rattle.texts.specs.RuleText.{Counts}
use Rattle.texts.specs.Walk.{walk}
use Rattle.texts.specs.Passes.{big_met}
use Rattle.lines.specs.declared.Counts.{Counts as Read}

-- the counts that a header gives, if it is one
abbrev pub counts_of : Prelude.Option Read → Option Counts
counts_of (Prelude.Some c) = some (record { upper = c.upper; lower = c.lower })
counts_of Prelude.None = none

-- the counts that two fields spell
unfoldable pub both_counts : Word → Word → Option Counts
both_counts m n = number_of m >>= λ a. number_of n >>= λ b. some (record { upper = a; lower = b })

-- an identifier of the field is too long or its level too high
unfoldable pub too_big : Word → Bool
too_big f = any big_met (walk 0 [] f)

-- the fields of a part from a place on: none past its end
unfoldable pub fields_from : List ℕ → ℕ → List Word
fields_from l at = cond (leb at (length l)) (fields (drop at l)) []
