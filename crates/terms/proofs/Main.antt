-- What the reader means: a field that spells a term is read as that term exactly where every identifier has as many arguments as it takes.
use Rattle.std.specs.Prelude.{None, Some, ℕ, ◌≡◌, true, false, List, [], ◌∷◌, ◌++◌, length, get_or}
use Rattle.parts.specs.Sides.{code}
use Rattle.texts.specs.Bytes.{Word, any, different}
use Rattle.texts.specs.Terms.{Term, nodes}
use Rattle.texts.specs.Books.{Agent, names_of}
use Rattle.model.specs.Table.{Cell}
use Rattle.texts.specs.RuleText.{wrong_args}
use Rattle.terms.specs.Agents.{agents_of, Listed}
use Rattle.terms.specs.Layout.{cells_at, names_at, sheet_size}
use Rattle.terms.specs.Sheet.{Sheet, view}
use Rattle.terms.specs.Reader.{done, field_by}
use Rattle.terms.specs.Meaning.{number, side_at, term_cells, Holds, grown, Spells, Room}
use Rattle.terms.proofs.Beneath.Rows as Rows
use Rattle.terms.proofs.Beneath.Views as Views
use Rattle.terms.proofs.Beneath.Whole as Whole

module _ (text : List ℕ) (ags : List Agent) (from to : ℕ) (s : Sheet) (t : Term) (f : Spells text from to t) where
  -- Every identifier has as many arguments as it takes: the answer is the code of the term, whose cells stand behind those of
  -- the sheet and whose new names, by first occurrence, behind its names; zs are names that other fields bring later.
  pub read_right : (cs : List Cell) (ws zs : List Word) → Holds text s cs ws → Room text ags (length cs) ws t
      → any (wrong_args ags) (nodes (t ∷ [])) ≡ false
      → let W : List Word = grown ws (names_of ags (t ∷ [])) ++ zs in
      (s₁ : Sheet) × (field_by text ags from to s ≡ done (Some (code (side_at ags (number W) (length cs) t))) s₁)
      × Holds text s₁ (cs ++ term_cells ags (number W) (length cs) t) (grown ws (names_of ags (t ∷ [])))
  read_right cs ws zs h r ok = Whole.read_right text ags from to s t f cs ws zs h r ok

  -- Some identifier has another number of arguments: there is no answer.
  pub read-wrong : any (wrong_args ags) (nodes (t ∷ [])) ≡ true
      → (s₁ : Sheet) × (field_by text ags from to s ≡ done None s₁)
  read-wrong bad = Whole.read-wrong text ags from to s t f bad

-- An array that is laid out for some agents stands for them.
pub listed : (ags : List Agent) (bytes : List ℕ) → Listed ags bytes → agents_of bytes ≡ ags
listed ags bytes l = Rows.listed ags bytes l

-- From an empty sheet on, names are numbered as `different` lists them.
pub names-different : (vs : List Word) → grown [] vs ≡ different vs
names-different vs = Whole.grown-different vs

-- An empty sheet holds nothing, whatever stands in its other words.
pub holds-nothing : (text w : List ℕ) → length w ≡ sheet_size → get_or w cells_at 0 ≡ 0 → get_or w names_at 0 ≡ 0
    → Holds text (view w) [] []
holds-nothing text w h c n = Views.holds-nothing text w h c n

-- Two lent sheets that look alike are alike in every word: what is promised of the view is promised of every word.
pub view_tells : (v w : List ℕ) → length v ≡ sheet_size → length w ≡ sheet_size → view v ≡ view w → v ≡ w
view_tells v w hv hw e = Views.view_tells v w hv hw e
