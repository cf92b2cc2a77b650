-- The fields of a line and the terms that they spell: the words in which the meaning of a line's readers is stated.
use Rattle.std.specs.Prelude.{ℕ, ◌+◌, ◌-◌, ◌≤◌, ◌≡◌, Bool, true, false, not, List, [], ◌∷◌, ◌++◌, map, length, take, drop, leb}
use Rattle.std.proofs.Math.Option.{some}
use Rattle.std.proofs.lemmas.List.Edits.{sets}
use Rattle.parts.specs.Limits.{text_max, arity_max, net_cells_max, net_names_max}
use Rattle.parts.specs.Sides.{code}
use Rattle.texts.specs.Bytes.{Word, any, all, fields}
use Rattle.texts.specs.Terms.{Term, nodes}
use Rattle.texts.specs.Books.{Agent, cells_of, names_of}
use Rattle.texts.specs.Coded.{packed, codes, cells_from}
use Rattle.texts.specs.RuleText.{big_node, wrong_args, terms_of}
use Rattle.model.specs.Table.{Cell}
use Rattle.terms.specs.Sheet.{Sheet}
use Rattle.terms.specs.Meaning.{number, Holds, grown, Stops}
use Rattle.line_terms.specs.Fields.{field_end}

-- These fields stand in a text from one place to another, parted by tabs; or there are none, wherever the places are.
unfoldable pub Parted : List ℕ → ℕ → ℕ → List Word → Type 0
Parted text from to [] = Unit {0}
Parted text from to (f ∷ fs) = (from ≤ to) × (fields (take (to - from) (drop from text)) ≡ f ∷ fs)

-- The first of them, and those after it.
pub record Cut (text : List ℕ) (from to : ℕ) (f : Word) (fs : List Word) : Type 0 where
  pub begins : from ≤ field_end text from to
  pub ends : field_end text from to ≤ to
  pub field : take (field_end text from to - from) (drop from text) ≡ f
  pub stops : Stops (drop (field_end text from to) text)
  pub rest : Parted text (field_end text from to + 1) to fs

-- Fields spell these terms, and what stands after them is no part of one.
pub record Written (text : List ℕ) (from to : ℕ) (fs : List Word) (ts : List Term) : Type 0 where
  pub within : to ≤ length text
  pub stops : Stops (drop to text)
  pub parted : Parted text from to fs
  pub terms : terms_of fs ≡ some ts

-- The terms are within the sizes, and there is room for their cells beside those of the sheet, and for their names.
pub record Roomy (text : List ℕ) (ags : List Agent) (used : ℕ) (ws : List Word) (ts : List Term) : Type 0 where
  pub short : length text ≤ text_max
  pub arities : all (λ a. leb a.arity arity_max) ags ≡ true
  pub small : any big_node (nodes ts) ≡ false
  pub cells : used + length (cells_of ags ts) ≤ net_cells_max
  pub names : length (grown ws (names_of ags ts)) ≤ net_names_max

-- A line is read from a sheet with these cells and names on, and these codes beside it.
module _ (text : List ℕ) (ags : List Agent) (old : List ℕ) (cs : List Cell) (ws : List Word) (ts : List Term) where
  -- What a right line leaves, W being all names of the text: the codes of its terms from place i on; and a sheet on which
  -- their cells stand behind those that it had, and their new names, by first occurrence, behind its names.
  pub record Left (W : List Word) (i : ℕ) (s : Sheet) (new : List ℕ) : Type 0 where
    pub codes : new ≡ sets old i (map code (codes ags (number W) (length cs) (packed ts)))
    pub holds : Holds text s (cs ++ cells_from ags (number W) (length cs) (packed ts)) (grown ws (names_of ags ts))

  -- What the answer r says: whether every identifier has as many arguments as it takes. Where it has, zs are names that
  -- other lines bring later.
  pub record Read (r : Bool) (s : Sheet) (new : List ℕ) : Type 0 where
    pub answer : r ≡ not (any (wrong_args ags) (nodes ts))
    pub left : r ≡ true → (zs : List Word) → Left (grown ws (names_of ags ts) ++ zs) 0 s new
