-- Lines of a text and fields of a line, by their places.
use Rattle.std.specs.Prelude.{ℕ, zero, suc, ◌+◌, ◌-◌, cond, List, [], ◌∷◌, length, take, drop, eqb, ltb, leb, Option, Some, None, Result, Ok, Err}
use Rattle.parts.specs.declared.faults.Fault.{Fault}
use Rattle.parts.specs.declared.faults.Fault.TheVariants.{BadByte}
use Rattle.scan.specs.Places.{place, is}

-- the part up to the first b, or all
unfoldable pub up_to : ℕ → List ℕ → List ℕ
up_to b l = take (place (is b) l) l

-- the line that begins at a place: ended by the newline at a further place, none, or number 2: bytes with no newline after
-- them
unfoldable pub next_line : List ℕ → ℕ → Result (Option ℕ) Fault
next_line text at =
    cond (leb (length text) at) (Ok None)
    (cond (ltb (place (is 10) (drop at text)) (length (drop at text)))
    (Ok (Some (at + place (is 10) (drop at text))))
    (Err BadByte))

-- one for a tab
unfoldable pub tabs : ℕ → ℕ
tabs b = cond (eqb b 9) 1 0

-- where field k begins: after the k-th tab. The length where there are not so many
unfoldable pub field_start : List ℕ → ℕ → ℕ
field_start [] k = 0
field_start (b ∷ bs) zero = 0
field_start (b ∷ bs) (suc k) = suc (field_start bs (suc k - tabs b))
