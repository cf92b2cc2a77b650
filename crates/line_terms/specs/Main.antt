-- What the readers of a line mean: whether every identifier has as many arguments as it takes, and what they leave.
use Rattle.std.specs.Prelude.{ℕ, ◌+◌, ◌-◌, ◌≤◌, ◌≡◌, Bool, false, not, List, [], ◌∷◌, length, take, drop}
use Rattle.texts.specs.Bytes.{Word, any, fields}
use Rattle.texts.specs.Terms.{Term, nodes}
use Rattle.texts.specs.Books.{Agent}
use Rattle.texts.specs.RuleText.{big_node, wrong_args}
use Rattle.model.specs.Table.{Cell}
use Rattle.scan.specs.Cutting.{field_start}
use Rattle.terms.specs.Sheet.{Sheet}
use Rattle.terms.specs.Meaning.{Holds, Stops, Spells}
use Rattle.line_terms.specs.Fields.{ran, fields_by}
use Rattle.line_terms.specs.Arguments.{argued_by, fields_argued}
use Rattle.line_terms.specs.Meaning.{Parted, Cut, Written, Roomy, Read}
use Rattle.line_terms.specs.Proofs.Cut as Cutting
use Rattle.line_terms.specs.Proofs.Starts as Starts
use Rattle.line_terms.specs.Proofs.Whole as Whole
use Rattle.line_terms.specs.Proofs.Argued as Argued

-- The fields of a line, read with room for them.
module _
    (text : List ℕ) (ags : List Agent) (from to : ℕ) (fs : List Word) (ts : List Term) (w : Written text from to fs ts)
    (s : Sheet) (old : List ℕ) (cs : List Cell) (ws : List Word) where
  pub fields_read : Holds text s cs ws → Roomy text ags (length cs) ws ts → {r : Bool} {s₁ : Sheet} {new : List ℕ}
      → ran r s₁ new ≡ fields_by text ags to (length fs) 0 from s old → Read text ags old cs ws ts r s₁ new
  fields_read h room e = Whole.fields_read text ags from to fs ts w s old cs ws h room e

-- Number 7 with no sheet: of the term of one field, and of the terms of a line.
module _ (text : List ℕ) (ags : List Agent) where
  pub field-argued : (from to : ℕ) (t : Term) → Spells text from to t → any big_node (nodes (t ∷ [])) ≡ false
      → argued_by text ags from to ≡ not (any (wrong_args ags) (nodes (t ∷ [])))
  field-argued from to t f small = Argued.field-argued text ags from to t f small

  pub fields_argued_lem : (from to : ℕ) (fs : List Word) (ts : List Term) → Written text from to fs ts
      → any big_node (nodes ts) ≡ false
      → fields_argued text ags to (length fs) from ≡ not (any (wrong_args ags) (nodes ts))
  fields_argued_lem from to fs ts w small = Argued.fields_argued_lem text ags to fs ts from w small

-- A newline and a tab are no part of a term.
pub newline_stops : (rest : List ℕ) → Stops (10 ∷ rest)
newline_stops rest = Cutting.newline_stops rest

pub tab-stops : (rest : List ℕ) → Stops (9 ∷ rest)
tab-stops rest = Cutting.tab-stops rest

-- The fields of a line from its k-th on, where the field cutter says that it begins.
pub parted_at : (text : List ℕ) (from to : ℕ) → from ≤ to → to ≤ length text → (k : ℕ)
    → let line : List ℕ = take (to - from) (drop from text) in
    Parted text (from + field_start line k) to (drop k (fields line))
parted_at text from to h l k = Starts.parted_at text from to h l k

-- A field is passed: the others begin after the tab that ends it.
pub first_field : (text : List ℕ) (from to : ℕ) (f : Word) (fs : List Word) → to ≤ length text → Stops (drop to text)
    → Parted text from to (f ∷ fs) → Cut text from to f fs
first_field text from to f fs h st p = Cutting.first_field text from to f fs h st p
