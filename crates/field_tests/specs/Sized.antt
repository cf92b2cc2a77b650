-- Number 5 on one field by one flat pass: where the first identifier begins that is too long or too deep.
use Rattle.std.specs.Prelude.{ℕ, ◌+◌, ◌-◌, Bool, cond, ◌&&◌, ◌||◌, List, [], ◌∷◌, leb}
use Rattle.parts.specs.Limits.{identifier_max, level_max}
use Rattle.texts.specs.Bytes.{word_byte}
use Rattle.texts.specs.Walk.{depth}

-- a byte of an identifier inside too many brackets, or of one with its full length n before it
unfoldable pub passes : ℕ → ℕ → ℕ → Bool
passes d n b = word_byte b && (leb level_max d || leb identifier_max n)

-- where the identifier begins that may go on after the byte b at i
unfoldable pub begun : ℕ → ℕ → ℕ → ℕ
begun start i b = cond (word_byte b) start (i + 1)

-- from the place i on, with d brackets open and an identifier begun at `start`; the end where there is none
unfoldable pub big_from : ℕ → ℕ → ℕ → List ℕ → ℕ
big_from i start d [] = i
big_from i start d (b ∷ bs) = cond (passes d (i - start) b) start (big_from (i + 1) (begun start i b) (depth d b) bs)

abbrev pub big_at : List ℕ → ℕ
big_at l = big_from 0 0 0 l
