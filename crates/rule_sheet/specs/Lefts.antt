-- The left arguments on a sheet.
use Rattle.std.specs.Prelude.{ℕ, ◌+◌, ◌-◌, ◌%◌, ◌<◌, ◌≤◌, ◌≡◌, Bool, cond, List, [], ◌++◌, length, get_or, drop}
use Rattle.parts.specs.Limits.{text_max, arity_max}
use Rattle.texts.specs.Bytes.{Word}
use Rattle.model.specs.Table.{Cell}
use Rattle.scan.specs.Words.{word_start, word_end, words_in}
use Rattle.table.specs.Lists.{tab}
use Rattle.terms.specs.Sheet.{Sheet, entered}
use Rattle.terms.specs.Meaning.{Holds}

-- One name more: the next word, or a free place.
unfoldable pub next_place : List ℕ → ℕ → Bool → ℕ
next_place text at more = cond more (word_end text (word_start text at)) at

unfoldable pub next_sheet : List ℕ → ℕ → Bool → Sheet → Sheet
next_sheet text at more s =
    cond more (entered s.names (word_start text at % text_max) ((word_end text (word_start text at) - word_start text at) % text_max) s)
    (entered s.names 0 0 s)

-- The first i of these words, the empty one past their end.
unfoldable pub firsts : ℕ → List Word → List Word
firsts i ws = tab i (λ k. get_or ws k [])

-- As many places as an agent may have arguments.
abbrev pub places : List Word → List Word
places ws = firsts arity_max ws

-- What was entered: the n words that stand from a place on, and free places.
pub record Entered (text : List ℕ) (at n : ℕ) (s s₁ : Sheet) : Type 0 where
  pub count : s₁.names ≡ s.names + arity_max
  pub holds : (cs : List Cell) (ws vs more : List Word) → Holds text s cs ws → at ≤ length text → length text < text_max
      → words_in (drop at text) ≡ vs ++ more → length vs ≡ n → Holds text s₁ cs (ws ++ places vs)
