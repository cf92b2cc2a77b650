-- What an answer of the line cutter says. That it says so, and that a field that is cut is the k-th of the fields, is proved in
-- crates/scan/proofs/Beneath/Cutting.antt.
use Rattle.std.specs.Prelude.{ℕ, suc, ◌-◌, ◌≤◌, ◌<◌, ◌≡◌, false, List, [], ◌∷◌, length, take, drop, Option, Some, None, Result, Ok, Err}
use Rattle.parts.specs.declared.faults.Fault.{Fault}
use Rattle.parts.specs.declared.faults.Fault.TheVariants.{BadByte}
use Rattle.texts.specs.Bytes.{lines}
use Rattle.texts.specs.Bytes.{ended_line}
use Rattle.scan.specs.Cutting.{up_to}

-- the line that begins at a place, by what the line cutter says of it
module _ (text : List ℕ) (at : ℕ) where
  -- an ended line: its newline stands within the text, and the lines after it begin past the newline
  pub record EndedAt (e : ℕ) : Type 0 where
    pub begins : at ≤ e
    pub within : e < length text
    pub bytes : up_to 10 (drop at text) ≡ take (e - at) (drop at text)
    pub rest : lines (drop at text) ≡ ended_line (up_to 10 (drop at text)) ∷ lines (drop (suc e) text)

  -- an unended line: bytes with no newline after them, which is number 2
  pub record UnendedAt (f : Fault) : Type 0 where
    pub number : f ≡ BadByte
    pub last : lines (drop at text) ≡ record { bytes = drop at text; ended = false } ∷ []

  -- what the three answers say
  unfoldable pub Told : Result (Option ℕ) Fault → Type 0
  Told (Ok (Some e)) = EndedAt e
  Told (Ok None) = lines (drop at text) ≡ []
  Told (Err f) = UnendedAt f
