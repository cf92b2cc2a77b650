-- The first line of what is printed, field by field: of a refusal, of a run that was stopped, and of one that ended.
use Rattle.std.specs.Prelude.{ℕ, List, [], ◌∷◌}
use Rattle.texts.specs.Bytes.{Word, bytes, text_of, line_of}
use Rattle.report.specs.Numbers.{digits}

abbrev pub word_refused : Word
word_refused = bytes "refused"

abbrev pub word_ran : Word
word_ran = bytes "ran"

abbrev pub word_ended : Word
word_ended = bytes "ended"

abbrev pub word_paused : Word
word_paused = bytes "paused"

abbrev pub word_noroom : Word
word_noroom = bytes "noroom"

abbrev pub word_answer : Word
word_answer = bytes "answer"

-- "A refusal prints `refused`, `rules` or `net` or `answer`, number, line (0 for answer), and no other line."
unfoldable pub refusal : Word → ℕ → ℕ → List ℕ
refusal of number line = text_of (line_of word_refused (of ∷ digits number ∷ digits line ∷ []) ∷ [])

-- "For paused and noroom only the first line, with its first four fields."
unfoldable pub stopped : Word → ℕ → ℕ → List ℕ
stopped word made loops = text_of (line_of word_ran (word ∷ digits made ∷ digits loops ∷ []) ∷ [])

-- "First line: `ran`, word, interactions, loops, stuck pairs, knot cells."
unfoldable pub ended : ℕ → ℕ → ℕ → ℕ → List ℕ
ended made loops stuck knot =
    text_of (line_of word_ran (word_ended ∷ digits made ∷ digits loops ∷ digits stuck ∷ digits knot ∷ []) ∷ [])

-- The room that a first line may take: words of at most 8 bytes and numbers of at most 20 digits.
abbrev pub word_max : ℕ
word_max = 8

abbrev pub first_max : ℕ
first_max = 128
