-- The readers' tests of a line, by number; lines that are read to their end; what is compared after all lines.
use Rattle.std.specs.Prelude.{◌≡◌, Bool, false, not, ◌&&◌, List, [], ◌∷◌, length}
use Rattle.std.proofs.Math.Option.{Option}
use Rattle.texts.specs.Bytes.{Word, Line, fault2, fields}
use Rattle.texts.specs.Terms.{Term}
use Rattle.texts.specs.Books.{Agent, Book, Net}
use Rattle.texts.specs.Answers.{OfLine, fine, absent, holds, ◌>>=◌}
use Rattle.texts.specs.RuleText.{Counts, header_of, terms_of, meant, fault3, fault4, fault5, fault6, fault7, fault8, fault9, fault10}
use Rattle.texts.specs.NetText.{face_fields, eq_fields, net_fault5, net_fault7, face_net, more_net}

-- The conditions of a header's line, from number 0 on: a line has no number 0 or 1.
unfoldable pub header_tests : Word → Line → List Bool
header_tests w l = false ∷ false ∷ fault2 l ∷ absent (header_of w (fields l.bytes)) ∷ []

-- Those of a line of a rule text: from 5 on they are asked of its record, where it has one.
unfoldable pub rule_tests : Book → Line → List Bool
rule_tests b l =
    false ∷ false ∷ fault2 l ∷ fault3 b l ∷ fault4 b l
    ∷ holds (fault5 b) (meant b l) ∷ holds (fault6 b) (meant b l) ∷ holds (fault7 b) (meant b l)
    ∷ holds (fault8 b) (meant b l) ∷ holds (fault9 b) (meant b l) ∷ holds (fault10 b) (meant b l) ∷ []

-- Those of a line of a net text: it has no number 6, and 5 and 7 are asked of its terms, where it has them.
unfoldable pub net_tests : List Agent → (List Term → Net) → Line → Option (List Word) → List Bool
net_tests ags net l fs =
    let ts : Option (List Term) = fs >>= terms_of in
    false ∷ false ∷ fault2 l ∷ absent fs ∷ (not (absent fs) && absent ts)
    ∷ holds (λ us. net_fault5 ags us (net us)) ts ∷ false ∷ holds (net_fault7 ags) ts ∷ []

unfoldable pub face_tests : List Agent → Line → List Bool
face_tests ags l = net_tests ags face_net l (face_fields (fields l.bytes))

unfoldable pub eq_tests : List Agent → Net → Line → List Bool
eq_tests ags n l = net_tests ags (more_net n) l (eq_fields (fields l.bytes))

-- Lines, each over what those before it mean.
module _ {S : Type 0} (step : S → Line → OfLine S) where
  -- every line is fine, and they lead from s to s'
  unfoldable pub Reads : S → List Line → S → Type 0
  Reads s [] s' = s ≡ s'
  Reads s (l ∷ ls) s' = (c : S) × (step s l ≡ fine c) × Reads c ls s'

-- The header's counts are those of the records found.
unfoldable pub Counted : Counts → Book → Type 0
Counted c b = (c.upper ≡ length b.agents) × (c.lower ≡ length b.rules)

unfoldable pub NetCounted : Counts → Net → Type 0
NetCounted c n = (c.upper ≡ length n.face) × (c.lower ≡ length n.equations)
