-- The rules of the calculus that a book writes, and a step read by them.
use Rattle.std.specs.Prelude.{◌≡◌, List, ◌∷◌, ◌++◌, ◌⊎◌, ℕ, length}
use Rattle.calculus.specs.Calculus.{Communication, Interaction}
use Rattle.calculus.specs.Calculus as Calculus
use Rattle.calculus.specs.Nets.{◌≈◌}
use Rattle.calculus.specs.Terms.{Conf}
use Rattle.model.specs.Table.{Entry, Found}
use Rattle.texts.specs.Books.{Rule, Book}
use Rattle.texts.specs.Meaning.{meant_rule}

-- Rule number i of a book, counted from 0, means R: there are i rules before it.
pub record Written (b : Book) (i : ℕ) (R : Calculus.Rule) : Type 0 where
  pub before : List Rule
  pub rule : Rule
  pub after : List Rule
  pub rules : b.rules ≡ before ++ (rule ∷ after)
  pub number : length before ≡ i
  pub means : R ≡ meant_rule b.agents rule

-- Between two nets, up to names, order and sides: "no change, one or two Communications, or one Interaction", by the written
-- rule of the number that the look-up of the picked pair gave, if any.
pub data ReadWritten (b : Book) (r : Found) (C C' : Conf) : Type 0 where
  no_change : r ≡ Found.none → C ≈ C' → ReadWritten b r C C'
  one_communication : {D : Conf} → r ≡ Found.none → Communication C D → D ≈ C' → ReadWritten b r C C'
  two_communications : {D E : Conf} → r ≡ Found.none → Communication C D → Communication D E → E ≈ C' → ReadWritten b r C C'
  one_interaction : {i : ℕ} {e : Entry} {R : Calculus.Rule} {D : Conf} → (r ≡ Found.straight i e) ⊎ (r ≡ Found.turned i e)
      → Written b i R → Interaction R C D → D ≈ C' → ReadWritten b r C C'
