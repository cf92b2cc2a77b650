-- The reader of a line's fields on lists: what it answers, and the sheet and the codes after it.
use Rattle.std.specs.Prelude.{ℕ, zero, suc, ◌+◌, ◌-◌, Bool, true, false, cond, List, take, drop, set, ltb, Option, None, Some}
use Rattle.texts.specs.Books.{Agent}
use Rattle.scan.specs.Places.{place, is}
use Rattle.terms.specs.Sheet.{Sheet}
use Rattle.terms.specs.Reader.{Done, done, field_by}

-- the end of the field that begins at a place: the next tab, or the end of the line
unfoldable pub field_end : List ℕ → ℕ → ℕ → ℕ
field_end text at to = at + place (is 9) (take (to - at) (drop at text))

-- an answer, and the sheet and the codes after it
pub data Ran : Type 0 where
  ran : Bool → Sheet → List ℕ → Ran

-- where a term was read, its code is stored at place i, and the reader goes on
unfoldable pub on_code : ℕ → List ℕ → Done (Option ℕ) → (Sheet → List ℕ → Ran) → Ran
on_code i codes (done None s) f = ran false s codes
on_code i codes (done (Some v) s) f = f s (set codes i v)

-- n fields from a place on, the first being number i; false where there are not so many
unfoldable pub fields_by : List ℕ → List Agent → ℕ → ℕ → ℕ → ℕ → Sheet → List ℕ → Ran
fields_by text ags to zero i at s codes = ran true s codes
fields_by text ags to (suc n) i at s codes =
    cond (ltb to at) (ran false s codes)
    (on_code i codes (field_by text ags at (field_end text at to) s) (fields_by text ags to n (i + 1) (field_end text at to + 1)))
