-- Words of a text, and how they are looked up: among the agents, and among the names of a sheet.
use Rattle.std.specs.Prelude.{ℕ, zero, suc, ◌+◌, ◌-◌, ◌*◌, ◌≤◌, ◌≡◌, cond, List, [], ◌∷◌, length, get_or, take, drop, Option, None, Some}
use Rattle.texts.specs.Bytes.{Word, same}
use Rattle.texts.specs.Books.{Agent}
use Rattle.terms.specs.declared.words.Agent.{Agent as Known}

-- b is the byte at place i, 0 past the end: one that is not 0 stands before the end
pub record ByteAt (text : List ℕ) (i b : ℕ) : Type 0 where
  pub is : b ≡ get_or text i 0
  pub inside : b ≤ 255 * (length text - i)

-- an agent by its number and its arity, as the code has it
abbrev pub known : ℕ → ℕ → Known
known k arity = record { symbol = record { 0 = k }; arity = arity }

-- the agent of a spelling, the first in the list being number k
unfoldable pub found : ℕ → List Agent → Word → Option Known
found k [] w = None
found k (a ∷ ags) w = cond (same w a.symbol) (Some (known k a.arity)) (found (k + 1) ags w)

-- the spelling of name k
unfoldable pub entry : List ℕ → List ℕ → ℕ → Word
entry text places k = take (get_or places (2 * k + 1) 0) (drop (get_or places (2 * k) 0) text)

-- the spellings of so many names from number k on
unfoldable pub entries_from : List ℕ → List ℕ → ℕ → ℕ → List Word
entries_from text places k zero = []
entries_from text places k (suc n) = entry text places k ∷ entries_from text places (k + 1) n

-- the spellings of the first n names
unfoldable pub entries : List ℕ → List ℕ → ℕ → List Word
entries text places n = entries_from text places 0 n
