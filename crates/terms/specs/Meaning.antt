-- What a sheet holds, and how the reader numbers names: the words in which its meaning is stated.
use Rattle.std.specs.Prelude.{ℕ, suc, ◌+◌, ◌-◌, ◌*◌, ◌<◌, ◌≤◌, ◌≡◌, true, false, cond, List, [], ◌∷◌, ◌++◌, length, get_or, take, drop, leb}
use Rattle.std.proofs.Math.Option.{some}
use Rattle.parts.specs.Limits.{text_max, arity_max, net_cells_max, net_names_max}
use Rattle.parts.specs.Sides.{Side, name, code}
use Rattle.texts.specs.Bytes.{Word, any, all, among, index_of, word_byte}
use Rattle.texts.specs.Terms.{Term, Terms, nodes}
use Rattle.texts.specs.Reader.{term_of}
use Rattle.texts.specs.Books.{Agent, cells_of, names_of}
use Rattle.texts.specs.RuleText.{big_node}
use Rattle.model.specs.Table.{Cell}
use Rattle.texts.specs.Coded.{code_at, codes, cells_at, cells_from}
use Rattle.terms.specs.Sheet.{Sheet}
use Rattle.terms.specs.Words.{entries}

-- A name's number: its place among the names.
abbrev pub number : List Word → Word → ℕ
number W w = index_of w W

-- The side and the cells of a term, given a number for each name; m is the number of the next cell.
module _ (ags : List Agent) (number : Word → ℕ) (m : ℕ) where
  abbrev pub side_at : Term → Side
  side_at t = code_at ags number m t

  abbrev pub sides_within : Terms → List Side
  sides_within ts = codes ags number m ts

  abbrev pub term_cells : Term → List Cell
  term_cells t = cells_at ags number m t

  abbrev pub terms_cells : Terms → List Cell
  terms_cells ts = cells_from ags number m ts

-- A sheet that is the view of a lent one.
pub record Sized (s : Sheet) : Type 0 where
  pub symbols : length s.symbols ≡ net_cells_max
  pub arguments : length s.arguments ≡ arity_max * net_cells_max
  pub places : length s.places ≡ 2 * net_names_max

-- Cell number i of a sheet: the word of its symbol, and the codes of its arguments.
pub record CellIs (s : Sheet) (i : ℕ) (c : Cell) : Type 0 where
  pub symbol : get_or s.symbols i 0 ≡ c.symbol + 1
  pub args : (j : ℕ) → j < length c.args
      → get_or s.arguments (arity_max * i + j) 0 ≡ code (get_or c.args j (name 0))

-- The cells from number i on.
unfoldable pub CellsAre : Sheet → ℕ → List Cell → Type 0
CellsAre s i [] = Unit {0}
CellsAre s i (c ∷ cs) = CellIs s i c × CellsAre s (suc i) cs

-- No cell has more arguments than a cell may.
unfoldable pub Narrow : List Cell → Type 0
Narrow [] = Unit {0}
Narrow (c ∷ cs) = (length c.args ≤ arity_max) × Narrow cs

-- The names of a sheet, by their spellings in the text. A name with no spelling stands as the empty word.
pub record Named (text : List ℕ) (s : Sheet) (ws : List Word) : Type 0 where
  pub count : s.names ≡ length ws
  pub spelt : entries text s.places (length ws) ≡ ws

-- A sheet that holds these cells and these names, and no others.
pub record Holds (text : List ℕ) (s : Sheet) (cs : List Cell) (ws : List Word) : Type 0 where
  pub sized : Sized s
  pub count : s.cells ≡ length cs
  pub cells : CellsAre s 0 cs
  pub narrow : Narrow cs
  pub names : Named text s ws

-- Names by first occurrence: a word that is not there yet comes last.
unfoldable pub grown : List Word → List Word → List Word
grown ws [] = ws
grown ws (v ∷ vs) = grown (cond (among v ws) ws (ws ++ (v ∷ []))) vs

-- What can stand after a field: nothing, or no word byte and no opening bracket.
unfoldable pub Stops : List ℕ → Type 0
Stops [] = Unit {0}
Stops (b ∷ bs) = (word_byte b ≡ false) × ((b ≡ 40) → ⊥)

-- The field of a text from one place to another spells a term, and what stands after it is no part of one.
pub record Spells (text : List ℕ) (from to : ℕ) (t : Term) : Type 0 where
  pub order : from ≤ to
  pub within : to ≤ length text
  pub spells : term_of (take (to - from) (drop from text)) ≡ some t
  pub stops : Stops (drop to text)

-- The term is within the sizes, and there is room for its cells beside those of the sheet, and for its names.
pub record Room (text : List ℕ) (ags : List Agent) (used : ℕ) (ws : List Word) (t : Term) : Type 0 where
  pub short : length text ≤ text_max
  pub arities : all (λ a. leb a.arity arity_max) ags ≡ true
  pub small : any big_node (nodes (t ∷ [])) ≡ false
  pub cells : used + length (cells_of ags (t ∷ [])) ≤ net_cells_max
  pub names : length (grown ws (names_of ags (t ∷ []))) ≤ net_names_max
