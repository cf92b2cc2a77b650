-- Bytes stored at a place of the output, as far as the output goes.
use Rattle.std.specs.Prelude.{◌≡◌, List, ℕ, ◌+◌, ◌*◌, length, take}
use Rattle.std.proofs.lemmas.List.Edits.{sets}
use Rattle.parts.specs.Limits.{text_max, identifier_max}
use Rattle.texts.specs.Bytes.{Word}
use Rattle.table.specs.Layout.{agent_row, word}

-- No answer is longer than this, so that no place of one passes a word of the machine.
abbrev pub far : ℕ
far = 2 * text_max

-- The longest number of a name: `_` and its digits.
abbrev pub name_long : ℕ
name_long = 5

-- The bytes bs stand from place `at` on, as far as the output has places, and r is the place after them.
pub record Puts (bs : List ℕ) (at : ℕ) (o : List ℕ) (r : ℕ) (o' : List ℕ) : Type 0 where
  pub place : r ≡ at + length bs
  pub bytes : o' ≡ sets o at bs

-- The letters of a symbol in a lent table.
unfoldable pub letters : List ℕ → ℕ → Word
letters w s = word (take identifier_max (agent_row w s))
