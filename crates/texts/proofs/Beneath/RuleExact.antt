-- The reader of rule texts stops at the earliest bad line, by the least number whose test holds of it.
use Rattle.std.specs.Prelude.{ℕ, ◌<◌, ◌≤◌, ◌≡◌, refl, Bool, true, false, cond, not, ◌&&◌, ◌↔◌, ◌⊎◌, List, [], ◌∷◌, length, ltb, eqb}
use Rattle.std.proofs.Common.{sym, ◌∙◌, inl, inr, ⊎_elim, arith, ltb-true, ltb-false, lt-ltb, le-ltb, eqb-true, eq-eqb}
use Rattle.std.proofs.Math.Option.{Option, none, some}
use Rattle.parts.specs.Limits.{text_max}
use Rattle.texts.specs.Bytes.{Word, Line, fault2, fields}
use Rattle.texts.specs.Books.{Book, Record, add, no_book, word_rules}
use Rattle.texts.specs.Answers.{fine, fault, OfText, accepted, refused, absent, holds, ◌>>=◌, need, read_lines, after}
use Rattle.texts.specs.RuleText.{Counts, header_of, Shape, record_of, fault5, fault6, fault7, fault8, fault9, fault10, header_line, judged, rule_line, shape, meant, fault3, fault4, counted, rules_of_lines}
use Rattle.texts.proofs.Beneath.Tools.{never, both, pair}
use Rattle.texts.proofs.Beneath.Reading.{lines-accepted, lines-refused, After, before, behind, after_refused, AfterLine, here, later, line_refused}
use Rattle.texts.proofs.Beneath.Firsts.{Agrees, agrees_fine, agrees_skip, agrees_refuse, agrees_none, agrees_some, agrees_first}
use Rattle.texts.proofs.Beneath.Stops.{First, RuleLinesRefused, no_line, bad_header, bad_line_lem, bad_count}
use Rattle.texts.proofs.Beneath.LineTests.{rule_tests, header_tests, Counted}

-- A line.
judged_agrees : (b : Book) (r : Record) → Agrees 5 (judged b r) (fault5 b r ∷ fault6 b r ∷ fault7 b r ∷ fault8 b r ∷ fault9 b r ∷ fault10 b r ∷ [])
unfolding judged
judged_agrees b r =
    agrees_refuse (fault5 b r) _ _ (agrees_refuse (fault6 b r) _ _ (agrees_refuse (fault7 b r) _ _
    (agrees_refuse (fault8 b r) _ _ (agrees_refuse (fault9 b r) _ _ (agrees_refuse (fault10 b r) _ _ (agrees_fine (add b r)))))))

-- The tests from number 4 on, by what is found.
tests4 : Book → Bool → Option Record → List Bool
tests4 b t o = (t && absent o) ∷ holds (fault5 b) o ∷ holds (fault6 b) o ∷ holds (fault7 b) o ∷ holds (fault8 b) o ∷ holds (fault9 b) o ∷ holds (fault10 b) o ∷ []

record_agrees : (b : Book) (o : Option Record) → Agrees 4 (need 4 o (judged b)) (tests4 b true o)
unfolding tests4 absent holds
record_agrees b none = agrees_none (judged b) _
record_agrees b (some r) = agrees_some (judged b) r _ (judged_agrees b r)

shape_agrees : (b : Book) (o : Option Shape) → Agrees 3 (need 3 o λ s. need 4 (record_of s) (judged b)) (absent o ∷ tests4 b (not (absent o)) (o >>= record_of))
unfolding absent ◌>>=◌
shape_agrees b none = agrees_none _ _
shape_agrees b (some s) = agrees_some (λ s. need 4 (record_of s) (judged b)) s _ (record_agrees b (record_of s))

line_agrees : (b : Book) (l : Line) → Agrees 0 (rule_line b l) (rule_tests b l)
unfolding rule_line rule_tests fault3 fault4 meant tests4
line_agrees b l =
    agrees_skip _ _ (agrees_skip _ _ (agrees_refuse (fault2 l) _ _ (shape_agrees b (shape b l))))

-- Within a line the least number whose condition holds.
pub rule_line-exact : (b : Book) (l : Line) (n : ℕ) → (rule_line b l ≡ fault n) ↔ First (rule_tests b l) n
rule_line-exact b l n = agrees_first (rule_line b l) (rule_tests b l) (line_agrees b l) n

pub header-exact : (w : Word) (l : Line) (n : ℕ) → (header_line w l ≡ fault n) ↔ First (header_tests w l) n
unfolding header_line header_tests absent need
header-exact w l n =
    agrees_first _ _ (agrees_skip _ _ (agrees_skip _ _ (agrees_refuse (fault2 l) _ _ (go (header_of w (fields l.bytes)))))) n
  where
    go : (o : Option Counts) → Agrees 3 (need 3 o fine) (absent o ∷ [])
    go none = agrees_none fine []
    go (some c) = agrees_skip (fine c) [] (agrees_fine c)

-- A text.
-- Two counts.
counts-true : (a b c d : ℕ) → (eqb a c && eqb b d) ≡ true → (a ≡ c) × (b ≡ d)
counts-true a b c d h = let p = both (eqb a c) (eqb b d) h in (eqb-true a c p.0, eqb-true b d p.1)

counts_of : (a b c d : ℕ) → (a ≡ c) × (b ≡ d) → (eqb a c && eqb b d) ≡ true
counts_of a b c d (p, q) = pair (eqb a c) (eqb b d) (eq-eqb a c p) (eq-eqb b d q)

counts_not : (a b c d : ℕ) → ¬ ((a ≡ c) × (b ≡ d)) → (eqb a c && eqb b d) ≡ false
counts_not a b c d h = go (eqb a c && eqb b d) refl
  where
    go : (t : Bool) → (eqb a c && eqb b d) ≡ t → t ≡ false
    go true e = absurd (h (counts-true a b c d e))
    go false e = refl

pub counts-exact : {A : Type 0} (a b c d n j : ℕ) (r : OfText A)
    → (cond (eqb a c && eqb b d) r (refused 11 1) ≡ refused n j)
    ↔ (((a ≡ c) × (b ≡ d) × (r ≡ refused n j)) ⊎ ((¬ ((a ≡ c) × (b ≡ d))) × (n ≡ 11) × (j ≡ 1)))
counts-exact {A} a b c d n j r = (λ h. to (eqb a c && eqb b d) refl h, λ p. ⊎_elim yes-from no_from p)
  where
    to : (t : Bool) → (eqb a c && eqb b d) ≡ t → cond t r (refused 11 1) ≡ refused n j
        → ((a ≡ c) × (b ≡ d) × (r ≡ refused n j)) ⊎ ((¬ ((a ≡ c) × (b ≡ d))) × (n ≡ 11) × (j ≡ 1))
    to true e h = let p = counts-true a b c d e in inl (p.0, p.1, h)
    to false e h =
        let x : 11 ≡ n = cc in
        let y : 1 ≡ j = cc in
        inr (λ p. never (sym e ∙ counts_of a b c d p), sym x, sym y)

    yes-from : (a ≡ c) × (b ≡ d) × (r ≡ refused n j) → cond (eqb a c && eqb b d) r (refused 11 1) ≡ refused n j
    yes-from (p, q, k) = rw (counts_of a b c d (p, q)) k

    no_from : (¬ ((a ≡ c) × (b ≡ d))) × (n ≡ 11) × (j ≡ 1) → cond (eqb a c && eqb b d) r (refused 11 1) ≡ refused n j
    no_from (u, x, y) = rw (counts_not a b c d u, x, y)

not_accepted : {A B : Type 0} {a : A} {n j : ℕ} → accepted a ≡ refused n j → B
not_accepted h = absurd (let z : ◌≡◌ {A = ℕ} 0 1 = cc in omega arith)

to_lines : (ls : List Line) (n j : ℕ) → rules_of_lines ls ≡ refused n j → RuleLinesRefused ls n j
unfolding rules_of_lines counted Counted
to_lines [] n j h = let x : 3 ≡ n = cc in let y : 1 ≡ j = cc in no_line refl (sym x) (sym y)
to_lines (l ∷ ls) n j h = top ((line_refused 1 (header_line word_rules l) rest n j).0 h)
  where
    rest : Counts → OfText Book
    rest c = after (read_lines rule_line 2 no_book ls) (counted c)

    last : (c : Counts) → header_line word_rules l ≡ fine c → (b : Book) → read_lines rule_line 2 no_book ls ≡ accepted b
        → ((c.upper ≡ length b.agents) × (c.lower ≡ length b.rules) × (accepted b ≡ refused n j))
        ⊎ ((¬ ((c.upper ≡ length b.agents) × (c.lower ≡ length b.rules))) × (n ≡ 11) × (j ≡ 1))
        → RuleLinesRefused (l ∷ ls) n j
    last c e b k (inl (p, q, x)) = not_accepted x
    last c e b k (inr (u, x, y)) = bad_count l ls refl c e b ((lines-accepted rule_line 2 no_book ls b).0 k) u x y

    mid : (c : Counts) → header_line word_rules l ≡ fine c → After (read_lines rule_line 2 no_book ls) (counted c) n j → RuleLinesRefused (l ∷ ls) n j
    mid c e (before k) = let p = (lines-refused rule_line 2 no_book ls n j).0 k in bad_line_lem l ls refl c e p.0 p.2 p.1
    mid c e (behind b k m) = last c e b k ((counts-exact c.upper c.lower (length b.agents) (length b.rules) n j (accepted b)).0 m)

    top : AfterLine 1 (header_line word_rules l) rest n j → RuleLinesRefused (l ∷ ls) n j
    top (here e q) = bad_header l ls refl ((header-exact word_rules l n).0 e) q
    top (later c e k) = mid c e ((after_refused (read_lines rule_line 2 no_book ls) (counted c) n j).0 k)

from-lines : (ls : List Line) (n j : ℕ) → RuleLinesRefused ls n j → rules_of_lines ls ≡ refused n j
unfolding rules_of_lines counted Counted
from-lines ls n j (no_line e x y) = rw (e, x, y)
from-lines ls n j (bad_header h rest e f y) =
    rw e ((line_refused 1 (header_line word_rules h) _ n j).1 (here ((header-exact word_rules h n).1 f) y))
from-lines ls n j (bad_line_lem h rest e c k i st y) =
    rw e ((line_refused 1 (header_line word_rules h) _ n j).1 (later c k
    ((after_refused (read_lines rule_line 2 no_book rest) (counted c) n j).1 (before ((lines-refused rule_line 2 no_book rest n j).1 (i, y, st))))))
from-lines ls n j (bad_count h rest e c k b r u x y) =
    rw e ((line_refused 1 (header_line word_rules h) _ n j).1 (later c k
    ((after_refused (read_lines rule_line 2 no_book rest) (counted c) n j).1 (behind b ((lines-accepted rule_line 2 no_book rest b).1 r)
    ((counts-exact c.upper c.lower (length b.agents) (length b.rules) n j (accepted b)).1 (inr (u, x, y)))))))

-- The lines of a rule text are refused exactly so.
pub rule-lines-refused : (ls : List Line) (n j : ℕ) → (rules_of_lines ls ≡ refused n j) ↔ RuleLinesRefused ls n j
rule-lines-refused ls n j = (to_lines ls n j, from-lines ls n j)

-- Number 1 is given before the lines are looked at.
pub length-exact : {A : Type 0} (text : List ℕ) (n j : ℕ) (r : OfText A)
    → (cond (ltb text_max (length text)) (refused 1 0) r ≡ refused n j)
    ↔ (((text_max < length text) × (n ≡ 1) × (j ≡ 0)) ⊎ ((length text ≤ text_max) × (r ≡ refused n j)))
length-exact {A} text n j r = (to (ltb text_max (length text)) refl, λ p. ⊎_elim long short p)
  where
    to : (t : Bool) → ltb text_max (length text) ≡ t → cond t (refused 1 0) r ≡ refused n j
        → ((text_max < length text) × (n ≡ 1) × (j ≡ 0)) ⊎ ((length text ≤ text_max) × (r ≡ refused n j))
    to true e h = let x : 1 ≡ n = cc in let y : 0 ≡ j = cc in inl (ltb-true text_max (length text) e, sym x, sym y)
    to false e h = inr (ltb-false text_max (length text) e, h)

    long : (text_max < length text) × (n ≡ 1) × (j ≡ 0) → cond (ltb text_max (length text)) (refused 1 0) r ≡ refused n j
    long (e, x, y) = rw (lt-ltb text_max (length text) e, x, y)

    short : (length text ≤ text_max) × (r ≡ refused n j) → cond (ltb text_max (length text)) (refused 1 0) r ≡ refused n j
    short (e, h) = rw (le-ltb text_max (length text) e) h
