-- The new names of a part of a text: which words they are, how one is entered on a sheet, what entering all means.
use Rattle.std.specs.Prelude.{ℕ, ◌-◌, ◌≤◌, ◌≡◌, Bool, true, false, cond, not, ◌&&◌, List, ltb, leb, length, take, drop}
use Rattle.parts.specs.Limits.{text_max, identifier_max}
use Rattle.model.specs.Table.{Cell}
use Rattle.texts.specs.Bytes.{Word, any, keep, index_of}
use Rattle.texts.specs.Books.{Agent, declared}
use Rattle.texts.specs.RuleText.{is_too_long}
use Rattle.scan.specs.Words.{words_in}
use Rattle.terms.specs.Sheet.{Sheet, entered}
use Rattle.terms.specs.Words.{entries}
use Rattle.terms.specs.Reader.{Done, done}
use Rattle.terms.specs.Meaning.{Holds, grown}

-- what stands in a text from one place to another
abbrev pub between : List ℕ → ℕ → ℕ → List ℕ
between text from to = take (to - from) (drop from text)

-- the names among some words: those that are no agent's, in order
unfoldable pub kept : List Agent → List Word → List Word
kept ags ws = keep (λ w. not (declared ags w)) ws

-- there is room after n names, and the place and the length are in bounds
unfoldable pub room_for : ℕ → ℕ → ℕ → ℕ → Bool
room_for limit n at long = ltb n limit && ltb at text_max && leb long identifier_max

-- the name that stands from `at` to `end`, where the sheet has n names, and the sheet after it
unfoldable pub new_after : List ℕ → ℕ → ℕ → ℕ → ℕ → Sheet → Done Bool
new_after text limit at end n s =
    cond (ltb limit n) (done false s)
    (cond (ltb (index_of (between text at end) (entries text s.places n)) n) (done true s)
    (cond (room_for limit n at (end - at)) (done true (entered n at (end - at) s)) (done false s)))

unfoldable pub new_by : List ℕ → ℕ → ℕ → ℕ → Sheet → Done Bool
new_by text limit at end s = new_after text limit at end s.names s

-- the word that stands there: an agent's is left out
unfoldable pub word_by : List ℕ → List Agent → ℕ → ℕ → ℕ → Sheet → Done Bool
word_by text ags limit at end s = cond (declared ags (between text at end)) (done true s) (new_by text limit at end s)

-- A sheet that holds some cells and names, and a part of the text with no identifier that is too long.
pub record Ready (text part : List ℕ) (s : Sheet) (cs : List Cell) (ws : List Word) : Type 0 where
  pub holds : Holds text s cs ws
  pub short : length text ≤ text_max
  pub small : any is_too_long (words_in part) ≡ false

-- The answer says whether the names are within the limit; where they are, the sheet holds them.
pub record Within (text : List ℕ) (limit : ℕ) (r : Bool) (s : Sheet) (cs : List Cell) (ws : List Word) : Type 0 where
  pub told : r ≡ leb (length ws) limit
  pub holds : r ≡ true → Holds text s cs ws

-- The names of a part entered: behind those of the sheet, by first occurrence.
pub record Entered
    (text : List ℕ) (ags : List Agent) (limit : ℕ) (part : List ℕ) (r : Bool) (s s₁ : Sheet) : Type 0 where
  pub means : (cs : List Cell) (ws : List Word) → Ready text part s cs ws
      → Within text limit r s₁ cs (grown ws (kept ags (words_in part)))
