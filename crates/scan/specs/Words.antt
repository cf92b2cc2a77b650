-- Words by their places: what an identifier begins with, and where a word stops.
use Rattle.std.specs.Prelude.{ℕ, ◌+◌, Bool, not, ◌||◌, List, [], map, drop, eqb}
use Rattle.texts.specs.Bytes.{Word, letter, word_byte}
use Rattle.texts.specs.Walk.{walk}
use Rattle.scan.specs.Places.{place}

-- a letter or underscore
unfoldable pub heads : ℕ → Bool
heads b = letter b || eqb b 95

-- where the first word at or after a place begins
abbrev pub word_start : List ℕ → ℕ → ℕ
word_start l at = at + place word_byte (drop at l)

-- where the word bytes from a place on end
abbrev pub word_end : List ℕ → ℕ → ℕ
word_end l at = at + place (λ b. not (word_byte b)) (drop at l)

-- the words of a field in reading order
unfoldable pub words_in : List ℕ → List Word
words_in l = map (λ m. m.word) (walk 0 [] l)
