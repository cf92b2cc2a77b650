-- The fields of a `rule` line after its first: two left fields, and those of the right side.
use Rattle.std.specs.Prelude.{◌≡◌, List, ◌∷◌, ℕ}
use Rattle.std.proofs.Math.Option.{some}
use Rattle.texts.specs.Bytes.{Word, fields}
use Rattle.texts.specs.Books.{Rule, rights}
use Rattle.texts.specs.RuleText.{terms_of}
use Rattle.texts.specs.Reader.{term_of}

-- They spell the rule r.
pub record Fields (l : List ℕ) (r : Rule) : Type 0 where
  pub first : Word
  pub second : Word
  pub right : List Word
  pub are : fields l ≡ first ∷ second ∷ right
  pub one : term_of first ≡ some r.first
  pub two : term_of second ≡ some r.second
  pub terms : terms_of right ≡ some (rights r)
