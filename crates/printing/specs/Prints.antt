-- What the printer's calls ask and promise: bytes stored at a place of the output, and the pen after them.
use Rattle.std.specs.Prelude.{◌≡◌, List, [], ◌∷◌, map, ℕ, zero, suc, ◌+◌, ◌-◌, ◌*◌, ◌≤◌, ◌<◌, length, get_or, take, drop}
use Rattle.std.proofs.lemmas.List.Edits.{sets}
use Rattle.parts.specs.Limits.{identifier_max, symbols_max, arity_max, names_max}
use Rattle.parts.specs.Sides.{Side, name, cell, side}
use Rattle.model.specs.State.{St}
use Rattle.model.specs.Table.{Table}
use Rattle.model.specs.Sound.{Sound}
use Rattle.model.specs.SoundTable.{SoundTable}
use Rattle.model.specs.Ranges.{LiveSide}
use Rattle.texts.specs.Books.{Agent}
use Rattle.table.specs.Layout.{agents_in}
use Rattle.state.specs.Layout.{view}
use Rattle.state.specs.Places.{size, words}
use Rattle.state.specs.declared.Part.{Part}
use Rattle.sound.specs.Lent.{under}
use Rattle.answers.specs.Text.{numeral}
use Rattle.answers.specs.Printing.{Pen, pen, Fits, Written, written, numbered, numbered_both, side_bytes, sides_bytes, cell_bytes}
use Rattle.printing.specs.Puts.{Puts, far, name_long, letters}
use Rattle.printing.specs.declared.terms.Cursor.{Cursor}
use Rattle.printing.specs.declared.terms.Met.{Met}
use Rattle.printing.specs.declared.terms.Met.TheVariants.{Numbered, Bare, Joined, Cell}

-- The pen of a cursor and of the numbers that the names have.
abbrev pub held : Cursor → List ℕ → Pen
held k ns = pen k.next ns k.left

-- What is to be written stands from place `at` on, as far as the output has places; the cursor stands after it.
pub record Prints (W : Written) (at : ℕ) (o : List ℕ) (r : Cursor) (ns o' : List ℕ) : Type 0 where
  pub place : r.at ≡ at + length W.bytes
  pub bytes : o' ≡ sets o at W.bytes
  pub after : held r ns ≡ W.after

-- Bytes that leave the pen as it was.
pub record Stands (bs : List ℕ) (k : Cursor) (o : List ℕ) (r : Cursor) (o' : List ℕ) : Type 0 where
  pub puts : Puts bs k.at o r.at o'
  pub same : (ns : List ℕ) → held r ns ≡ held k ns

-- The letters of a cell, of which there is one less to be met after them; and the bracket after n arguments.
pub record Begins (k : Cursor) (word : ℕ) : Type 0 where
  pub some : 0 < k.left
  pub room : k.at + identifier_max ≤ far
  pub used : 0 < word
  pub few : word ≤ symbols_max

pub record Begun (w : List ℕ) (word : ℕ) (k : Cursor) (o : List ℕ) (r : Cursor) (o' : List ℕ) : Type 0 where
  pub puts : Puts (letters w (word - 1)) k.at o r.at o'
  pub next : r.next ≡ k.next
  pub left : k.left ≡ suc r.left

abbrev pub closing : ℕ → List ℕ
closing zero = []
closing (suc n) = 41 ∷ []

-- What a cell adds at most: its letters, a closing bracket, and the names among its arguments, each with the byte
-- before it.
abbrev pub dear : ℕ
dear = identifier_max + 1 + arity_max * (1 + name_long)

-- The numbers fit, and the cells left and n more bytes come to no place that is too far.
pub record Ready (k : Cursor) (ns : List ℕ) (n : ℕ) : Type 0 where
  pub fits : Fits (held k ns)
  pub room : k.at + dear * k.left + n ≤ far

-- A name that is to be numbered, where there is room for its number.
pub record Leaf (k : Cursor) (x : ℕ) : Type 0 where
  pub few : k.next ≤ names_max
  pub room : k.at + name_long ≤ far
  pub inside : x < names_max

-- The n sides from place `from` of an array on, and those of a part of a state that are all in use.
unfoldable pub span : List ℕ → ℕ → ℕ → List Side
span l from n = map side (take n (drop from l))

pub record Row (s : St) (p : Part) (from n : ℕ) : Type 0 where
  pub fits : from + n ≤ size p
  pub live : (i : ℕ) → i < n → LiveSide s (side (get_or (words p s) (from + i) 0))

unfoldable pub one_name : ℕ → Cursor → List ℕ → Written
one_name x k ns = written (numeral k.next) (numbered x (held k ns))

unfoldable pub two_names : ℕ → ℕ → Cursor → List ℕ → Written
two_names x y k ns = written (numeral k.next) (numbered_both x y (held k ns))

-- What is written of a side that is met so, and what of it is in use.
abbrev pub met_bytes : List Agent → Table → St → Met → Pen → Written
met_bytes ags T s (Numbered k) P = written (numeral k) P
met_bytes ags T s (Bare x) P = written (numeral P.next) (numbered x.0 P)
met_bytes ags T s (Joined x y) P = written (numeral P.next) (numbered_both x.0 y.0 P)
met_bytes ags T s (Cell c) P = cell_bytes ags T s c.0 P

abbrev pub LiveMet : St → Met → Type 0
LiveMet s (Numbered k) = Unit {0}
LiveMet s (Bare x) = LiveSide s (name x.0)
LiveMet s (Joined x y) = LiveSide s (name x.0) × LiveSide s (name y.0)
LiveMet s (Cell c) = LiveSide s (cell c.0)

pub record Looks (s : St) (ns : List ℕ) (t : Side) (r : Met) : Type 0 where
  pub is : (ags : List Agent) (T : Table) (P : Pen) → P.numbers ≡ ns → side_bytes ags T s t P ≡ met_bytes ags T s r P
  pub live : (T : Table) → SoundTable T → Sound T s → LiveMet s r

-- What is written of a side, a cell and some sides of a lent state, with a cursor and the numbers of the names.
module _ (w v : List ℕ) where
  abbrev pub side_of : ℕ → Cursor → List ℕ → Written
  side_of word k ns = side_bytes (agents_in w) (under w) (view v) (side word) (held k ns)

  abbrev pub cell_of : ℕ → Cursor → List ℕ → Written
  cell_of c k ns = cell_bytes (agents_in w) (under w) (view v) c (held k ns)

  abbrev pub sides_of : ℕ → ℕ → List Side → Cursor → List ℕ → Written
  sides_of f g ts k ns = sides_bytes (agents_in w) (under w) (view v) f g ts (held k ns)
