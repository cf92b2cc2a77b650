-- The flat spelling pass by places: where a field stops to be the spelling of a term.
use Rattle.std.specs.Prelude.{ℕ, suc, Bool, true, false, cond, List, [], ◌∷◌, Result, Ok, Err}
use Rattle.std.proofs.Math.Option.{Option, none, some}
use Rattle.texts.specs.Scan.{want, word, shut, lost, next, scan, done}
use Rattle.texts.specs.Scan as Flat
use Rattle.field_tests.specs.declared.spelling.Scan.{Scan}
use Rattle.field_tests.specs.declared.spelling.Scan.TheVariants.{Want, Word, Shut, Lost}

-- where the code's pass stands
abbrev pub plain : Scan → Flat.Scan
plain (Want d) = want d
plain (Word d) = word d
plain (Shut d) = shut d
plain Lost = lost

-- the brackets open
abbrev pub open_of : Scan → ℕ
open_of (Want d) = d
open_of (Word d) = d
open_of (Shut d) = d
open_of Lost = 0

unfoldable pub is_lost : Flat.Scan → Bool
is_lost (want d) = false
is_lost (word d) = false
is_lost (shut d) = false
is_lost lost = true

-- the place of the first byte that no term has there, or the length
unfoldable pub lost_at : Flat.Scan → List ℕ → ℕ
lost_at q [] = 0
lost_at q (b ∷ bs) = cond (is_lost (next q b)) 0 (suc (lost_at (next q b) bs))

-- number 4 on a field: none where it spells a term; else that place, which is the length where the field ends too early
unfoldable pub misspelt_at : List ℕ → Option ℕ
misspelt_at l = cond (done (scan (want 0) l)) none (some (lost_at (want 0) l))

-- the place that the code answers
abbrev pub wrong_at : {A : Type 0} → Result A ℕ → Option ℕ
wrong_at (Ok a) = none
wrong_at (Err n) = some n
