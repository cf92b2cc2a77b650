-- What an interaction asks of a lent table and a state, and its parts in the shape of the code.
use Rattle.std.specs.Prelude.{◌≡◌, List, ℕ, ◌+◌, ◌*◌, ◌<◌, ◌≤◌, length, get_or}
use Rattle.std.proofs.lemmas.List.Edits.{sets}
use Rattle.parts.specs.Limits.{arity_max, cells_max, names_max}
use Rattle.model.specs.State.{St, used}
use Rattle.state.specs.declared.Part.TheVariants.{Symbols, Names}
use Rattle.firing.specs.Built.{equations_of, cells_of, names_of, symbol_word, argued_on, put_from}
use Rattle.firing.specs.Frames.{names_at, cells_at, four}
use Rattle.firing.specs.Taken.{taken_on, entered, name_code, cell_code}

-- Two cells in use, which are different, in a state of the full size.
pub record Pairing (a b : ℕ) (s : St) : Type 0 where
  pub first : 0 < get_or s.symbols a 0
  pub second : 0 < get_or s.symbols b 0
  pub apart : ¬ (a ≡ b)
  pub symbols : length s.symbols ≡ cells_max
  pub arguments : length s.arguments ≡ arity_max * cells_max
  pub names : length s.names ≡ names_max

-- The arguments of both cells in a frame.
unfoldable pub opened : ℕ → ℕ → St → List ℕ → List ℕ
opened a b s F = sets (sets F 0 (four a s.arguments)) arity_max (four b s.arguments)

-- Enough free places for the new names and the new cells of a rule, and both taken.
pub record RoomFor (w : List ℕ) (i : ℕ) (s : St) : Type 0 where
  pub symbols : length s.symbols ≡ cells_max
  pub names : length s.names ≡ names_max
  pub cells_room : cells_of w i + used s.symbols ≤ cells_max
  pub names_room : names_of w i + used s.names ≤ names_max

unfoldable pub taken_both : List ℕ → ℕ → St → St
taken_both w i s = taken_on Symbols (symbol_word w i) (cells_of w i) (taken_on Names (λ j. 1) (names_of w i) s)

unfoldable pub entered_both : List ℕ → ℕ → St → List ℕ → List ℕ
entered_both w i s F =
    entered
    Symbols
    cells_at
    cell_code
    (cells_of w i)
    (taken_on Names (λ j. 1) (names_of w i) s)
    (entered Names names_at name_code (names_of w i) s F)

-- The cells filled, and the equations put.
unfoldable pub built : List ℕ → ℕ → List ℕ → St → St
built w i F s = put_from w i F 0 (equations_of w i) (argued_on w i F 0 (cells_of w i) s)
