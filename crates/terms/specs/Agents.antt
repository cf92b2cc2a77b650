-- The agents lent: an array of rows, and the list of agents that it stands for.
use Rattle.std.specs.Prelude.{ℕ, zero, suc, ◌+◌, ◌-◌, ◌*◌, ◌≤◌, ◌≡◌, Bool, true, cond, not, ◌&&◌, List, [], ◌∷◌, ◌++◌, length, get_or, take, drop, replicate, eqb, leb}
use Rattle.parts.specs.Limits.{identifier_max, symbols_max, agent_size}
use Rattle.texts.specs.Bytes.{Word, all}
use Rattle.texts.specs.Books.{Agent}
use Rattle.scan.specs.Cutting.{up_to}

-- the spelling of the agent whose row begins at a place: the bytes before the first zero
unfoldable pub spelling_at : ℕ → List ℕ → Word
spelling_at at bytes = up_to 0 (take identifier_max (drop at bytes))

-- the rows from number k on, at most so many: the first whose last byte is 0 is no symbol's, and ends them
unfoldable pub agents_from : ℕ → ℕ → List ℕ → List Agent
agents_from zero k bytes = []
agents_from (suc n) k bytes =
    let more = agents_from n (k + 1) bytes in
    let at = agent_size * k in
    let last = get_or bytes (at + identifier_max) 0 in
    cond (eqb last 0) [] (record { symbol = spelling_at at bytes; arity = last - 1 } ∷ more)

-- The agents that a lent array stands for.
unfoldable pub agents_of : List ℕ → List Agent
agents_of bytes = agents_from symbols_max 0 bytes

-- An agent's row: its letters, zero-filled, and its arity + 1.
unfoldable pub row_of : Agent → List ℕ
row_of a = (a.symbol ++ replicate (identifier_max - length a.symbol) 0) ++ ((a.arity + 1) ∷ [])

unfoldable pub rows_of : List Agent → List ℕ
rows_of [] = []
rows_of (a ∷ ags) = row_of a ++ rows_of ags

-- A spelling that fits a row: none of its bytes is 0.
unfoldable pub lettered : Agent → Bool
lettered a = leb (length a.symbol) identifier_max && all (λ b. not (eqb b 0)) a.symbol

-- An array that is exactly the layout of a list of agents: their rows as they are declared, and zeros after them.
pub record Listed (ags : List Agent) (bytes : List ℕ) : Type 0 where
  pub few : length ags ≤ symbols_max
  pub spelled : all lettered ags ≡ true
  pub laid : bytes ≡ rows_of ags ++ replicate (agent_size * (symbols_max - length ags)) 0
