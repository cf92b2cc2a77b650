-- What stands on the sheet and in the codes while a net text is read: the terms so far.
use Rattle.std.specs.Prelude.{ℕ, ◌+◌, ◌*◌, ◌≤◌, ◌≡◌, false, List, ◌++◌, map, length, take}
use Rattle.parts.specs.Limits.{face_max, net_equations_max, net_cells_max}
use Rattle.parts.specs.Sides.{code}
use Rattle.texts.specs.Bytes.{Word, any, different}
use Rattle.texts.specs.Terms.{Term, nodes}
use Rattle.texts.specs.Books.{Agent, cells_of, names_of}
use Rattle.texts.specs.RuleText.{wrong_args}
use Rattle.texts.specs.Coded.{packed, codes, cells_from}
use Rattle.terms.specs.Sheet.{Sheet}
use Rattle.terms.specs.Meaning.{number, Holds}

-- The names of some terms by first occurrence.
abbrev pub named : List Agent → List Term → List Word
named ags ts = different (names_of ags ts)

-- The sheet holds the cells of the terms and names that begin with those of the terms; zs are names that come later.
abbrev pub OnSheet : List ℕ → List Agent → Sheet → List Word → List Term → Type 0
OnSheet text ags s W ts = (zs : List Word) → Holds text s (cells_from ags (number (W ++ zs)) 0 (packed ts)) W

-- The codes begin with those of the terms.
abbrev pub InCodes : List Agent → List ℕ → List Word → List Term → Type 0
InCodes ags cs W ts = (zs : List Word) → take (length ts) cs ≡ map code (codes ags (number (W ++ zs)) 0 (packed ts))

pub record Draft (text : List ℕ) (ags : List Agent) (s : Sheet) (cs : List ℕ) (ts : List Term) : Type 0 where
  pub holds : OnSheet text ags s (named ags ts) ts
  pub codes : InCodes ags cs (named ags ts) ts
  pub long : length cs ≡ face_max + 2 * net_equations_max
  pub right : any (wrong_args ags) (nodes ts) ≡ false
  pub few : length (cells_of ags ts) ≤ net_cells_max
