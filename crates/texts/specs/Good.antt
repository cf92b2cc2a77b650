-- Well-formed books, nets and tables.
use Rattle.std.specs.Prelude.{ℕ, ◌≡◌, true, false, List, [], ◌∷◌, ◌++◌}
use Rattle.texts.specs.Bytes.{any, all, lines}
use Rattle.texts.specs.Terms.{Term, symbol, worded}
use Rattle.texts.specs.Books.{Agent, Equation, Book, Record, is_agent, is_rule, add, no_book, records_of, lefts, rights, names_of, Net, net_terms}
use Rattle.texts.specs.Answers.{accepted}
use Rattle.texts.specs.RuleText.{ruleless, fault5, fault6, fault7, fault8, fault9, fault10, rules_of_lines}
use Rattle.texts.specs.NetText.{net_fault5, net_fault7, face_net, more_net, loose}
use Rattle.texts.specs.Coded.{Table, table_of}

-- A record is well spelt.
unfoldable pub Spelt : Record → Type 0
Spelt (is_agent a) = symbol a.symbol ≡ true
Spelt (is_rule r) = all worded (lefts r ++ rights r) ≡ true

-- Agents stand before rules.
unfoldable pub Placed : Book → Record → Type 0
Placed b (is_agent a) = ruleless b ≡ true
Placed b (is_rule r) = Unit {0}

-- A record that may stand next in a book.
pub record Good (b : Book) (r : Record) : Type 0 where
  pub placed : Placed b r
  pub spelt : Spelt r
  pub no5 : fault5 b r ≡ false
  pub no6 : fault6 b r ≡ false
  pub no7 : fault7 b r ≡ false
  pub no8 : fault8 b r ≡ false
  pub no9 : fault9 b r ≡ false
  pub no10 : fault10 b r ≡ false

-- Every record may stand next after those before it.
unfoldable pub GoodFrom : Book → List Record → Type 0
GoodFrom b [] = Unit {0}
GoodFrom b (r ∷ rs) = Good b r × GoodFrom (add b r) rs

unfoldable pub GoodBook : Book → Type 0
GoodBook b = GoodFrom no_book (records_of b)

-- The terms of a line, n being the net with them.
pub record GoodTerms (ags : List Agent) (ts : List Term) (n : Net) : Type 0 where
  pub spelt : all worded ts ≡ true
  pub no5 : net_fault5 ags ts n ≡ false
  pub no7 : net_fault7 ags ts ≡ false

-- The terms of an `eq` line.
abbrev pub terms_in : Equation → List Term
terms_in e = e.left ∷ e.right ∷ []

unfoldable pub GoodEquations : List Agent → Net → List Equation → Type 0
GoodEquations ags n [] = Unit {0}
GoodEquations ags n (e ∷ es) =
    GoodTerms ags (terms_in e) (more_net n (terms_in e)) × GoodEquations ags (more_net n (terms_in e)) es

-- A net: its face, then its equations one by one, and each name exactly twice.
pub record GoodNet (ags : List Agent) (n : Net) : Type 0 where
  pub good_face : GoodTerms ags n.face (face_net n.face)
  pub good_equations : GoodEquations ags (face_net n.face) n.equations
  pub twice : any (loose (names_of ags (net_terms n))) (names_of ags (net_terms n)) ≡ false

-- "A sound table is one that some rule text would give if its length had no limit."
unfoldable pub SoundTable : Table → Type 0
SoundTable t = (text : List ℕ) × (b : Book) × (rules_of_lines (lines text) ≡ accepted b) × (table_of b ≡ t)
