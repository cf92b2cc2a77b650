-- A net text is accepted exactly where it is the printed form of a good net, and means that net.
use Rattle.std.specs.Prelude.{ℕ, suc, ◌<◌, ◌≤◌, ◌≡◌, refl, Bool, true, false, cond, not, ◌&&◌, ◌||◌, ◌↔◌, List, [], ◌∷◌, ◌++◌, map, length, eqb, ltb}
use Rattle.std.proofs.Common.{sym, ap, ◌∙◌, append-nil, append_assoc, arith, ltb-false, le-ltb, eqb-true, eq-eqb}
use Rattle.std.proofs.Math.Option.{Option, none, some}
use Rattle.parts.specs.Limits.{text_max, face_max, net_equations_max, net_cells_max, net_names_max}
use Rattle.texts.specs.Bytes.{Word, Line, any, all, keep, different, word_byte, lines, decimal, text_of, letter, digit}
use Rattle.texts.specs.Terms.{Term, spell, Node, nodes, words_of}
use Rattle.texts.specs.Books.{Agent, Equation, Net, declared, write_header, write_face, write_equation, print_net, sides, pairs, cells_of, names_of, net_terms, word_net, word_face, word_eq}
use Rattle.texts.specs.Answers.{fine, accepted, refused, read_lines}
use Rattle.texts.specs.RuleText.{Counts, header_line, big_node}
use Rattle.texts.specs.NetText.{big_net, net_fault5, face_net, more_net, face_line, eq_line, loose, net_lines, loose_line, unless_loose, names_twice, net_counted, face_and_eqs, net_of_lines, read_net}
use Rattle.texts.proofs.Beneath.Tools.{both, pair, neither, any_append, keep_append, cons-eq}
use Rattle.texts.specs.Splitting.{free}
use Rattle.texts.specs.Bytes.{ended_line}
use Rattle.texts.proofs.Beneath.Splitting.{text-ended, lines-text}
use Rattle.texts.proofs.Beneath.Plain.{word-plain, spells-plain, decimal-plain, line_newlines}
use Rattle.texts.proofs.Beneath.Means.{two, header-fine}
use Rattle.texts.proofs.Beneath.NetLines.{words-plain, face_back, face-fine, eq_back, eq-fine}
use Rattle.texts.proofs.Beneath.Reading.{lines-accepted, after_accepted, line-accepted}
use Rattle.texts.proofs.Beneath.LineTests.{Reads}
use Rattle.texts.specs.Good.{GoodTerms, terms_in, GoodEquations, GoodNet}

-- The lines of a text.
add_eqs : Net → List Equation → Net
add_eqs n [] = n
add_eqs n (e ∷ es) = add_eqs (more_net n (terms_in e)) es

abbrev line_for : Equation → Line
line_for e = ended_line (write_equation e)

abbrev Equations : List Agent → Net → List Line → Net → Type 0
Equations ags n ls n' = (es : List Equation) × (ls ≡ map line_for es) × GoodEquations ags n es × (n' ≡ add_eqs n es)

more_equations : (ags : List Agent) (n m n' : Net) (l : Line) (ls : List Line) (e : Equation) (es : List Equation)
    → l ≡ line_for e → GoodTerms ags (terms_in e) (more_net n (terms_in e)) → more_net n (terms_in e) ≡ m
    → ls ≡ map line_for es → GoodEquations ags m es → n' ≡ add_eqs m es → Equations ags n (l ∷ ls) n'
unfolding GoodEquations add_eqs
more_equations ags n m n' l ls e es k g z f gs y = (e ∷ es, rw (k, f), (g, rw z gs), rw z y)

to_equations : (ags : List Agent) (ls : List Line) (n n' : Net) → Reads (eq_line ags) n ls n' → Equations ags n ls n'
unfolding Reads GoodEquations add_eqs
to_equations ags [] n n' h = ([], refl, tt, sym h)
to_equations ags (l ∷ ls) n n' (m, e, h) =
    let p = (eq-fine ags n m l).0 e in
    let q = to_equations ags ls m n' h in
    more_equations ags n m n' l ls p.0 q.0 p.1 p.2 p.3 q.1 q.2 q.3

of_equations : (ags : List Agent) (es : List Equation) (n : Net) → GoodEquations ags n es → Reads (eq_line ags) n (map line_for es) (add_eqs n es)
unfolding Reads GoodEquations add_eqs
of_equations ags [] n g = refl
of_equations ags (e ∷ es) n (g, gs) = (more_net n (terms_in e), eq_back ags n e g, of_equations ags es (more_net n (terms_in e)) gs)

add_all : (es : List Equation) (n : Net) → add_eqs n es ≡ record { face = n.face; equations = n.equations ++ es }
unfolding add_eqs more_net pairs
add_all [] n = rw (append-nil n.equations)
add_all (e ∷ es) n = add_all es (more_net n (terms_in e)) ∙ rw append_assoc

-- Names over all lines.
pub nodes-append : (ts us : List Term) → nodes (ts ++ us) ≡ nodes ts ++ nodes us
unfolding nodes
nodes-append [] us = refl
nodes-append (t ∷ ts) us = rw (nodes-append ts us, append_assoc)

words_append : (ns ms : List Node) → words_of (ns ++ ms) ≡ words_of ns ++ words_of ms
unfolding words_of
words_append [] ms = refl
words_append (n ∷ ns) ms = rw (words_append ns ms)

pub names-append : (ags : List Agent) (ts us : List Term) → names_of ags (ts ++ us) ≡ names_of ags ts ++ names_of ags us
unfolding names_of
names-append ags ts us = rw (nodes-append ts us, words_append (nodes ts) (nodes us)) (keep_append (λ w. not (declared ags w)) (words_of (nodes ts)) (words_of (nodes us)))

flat : List (List Term) → List Term
flat [] = []
flat (ts ∷ tss) = ts ++ flat tss

flat-pairs : (es : List Equation) → flat (map terms_in es) ≡ sides es
unfolding flat sides
flat-pairs [] = refl
flat-pairs (e ∷ es) = rw (flat-pairs es)

flat-lines : (n : Net) → flat (net_lines n) ≡ net_terms n
unfolding flat net_lines net_terms
flat-lines n = rw (flat-pairs n.equations)

no_names : (ags : List Agent) (names : List Word) → any (loose names) (names_of ags []) ≡ false
unfolding any names_of keep nodes words_of
no_names ags names = refl

to_none : (ags : List Agent) (names : List Word) (k : ℕ) (tss : List (List Term))
    → loose_line ags names k tss ≡ none → any (loose names) (names_of ags (flat tss)) ≡ false
unfolding loose_line flat
to_none ags names k [] h = no_names ags names
to_none ags names k (ts ∷ tss) h =
    rw (names-append ags ts (flat tss), any_append (loose names) (names_of ags ts) (names_of ags (flat tss)))
    (go (any (loose names) (names_of ags ts)) h (to_none ags names (suc k) tss))
  where
    go : (t : Bool) → cond t (some k) (loose_line ags names (suc k) tss) ≡ none
        → (loose_line ags names (suc k) tss ≡ none → any (loose names) (names_of ags (flat tss)) ≡ false) → (t || any (loose names) (names_of ags (flat tss))) ≡ false
    go true e ih = absurd (let z : ◌≡◌ {A = ℕ} 0 1 = cc in omega arith)
    go false e ih = ih e

from_none : (ags : List Agent) (names : List Word) (k : ℕ) (tss : List (List Term))
    → any (loose names) (names_of ags (flat tss)) ≡ false → loose_line ags names k tss ≡ none
unfolding loose_line flat
from_none ags names k [] h = refl
from_none ags names k (ts ∷ tss) h =
    let p = neither (any (loose names) (names_of ags ts)) _ (sym (any_append (loose names) (names_of ags ts) (names_of ags (flat tss))) ∙ (ap (any (loose names)) (sym (names-append ags ts (flat tss))) ∙ h)) in
    rw p.0 (from_none ags names (suc k) tss p.1)

-- No line is loose exactly where no name is.
twice-accepted : (ags : List Agent) (n n' : Net) → (names_twice ags n ≡ accepted n') ↔ ((any (loose (names_of ags (net_terms n))) (names_of ags (net_terms n)) ≡ false) × (n ≡ n'))
unfolding names_twice unless_loose
twice-accepted ags n n' = (to (loose_line ags names 2 (net_lines n)) refl, from)
  where
    names : List Word
    names = names_of ags (net_terms n)

    to : (o : Option ℕ) → loose_line ags (names_of ags (net_terms n)) 2 (net_lines n) ≡ o → unless_loose o n ≡ accepted n'
        → (any (loose (names_of ags (net_terms n))) (names_of ags (net_terms n)) ≡ false) × (n ≡ n')
    to none e h = (rw flat-lines at (to_none ags (names_of ags (net_terms n)) 2 (net_lines n) e), (let z : n ≡ n' = cc in z))
    to (some k) e h = absurd (let z : ◌≡◌ {A = ℕ} 0 1 = cc in omega arith)

    from : (any (loose (names_of ags (net_terms n))) (names_of ags (net_terms n)) ≡ false) × (n ≡ n') → names_twice ags n ≡ accepted n'
    from (h, z) = rw (from_none ags (names_of ags (net_terms n)) 2 (net_lines n) (rw flat-lines h), z)

-- The whole text.
pub word_net_lem : all word_byte word_net ≡ true
unfolding all word_byte letter digit
word_net_lem = refl

abbrev counts_of : Net → Counts
counts_of n = record { upper = length n.face; lower = length n.equations }

abbrev head_of : Net → List ℕ
head_of n = write_header word_net (length n.face) (length n.equations)

counts-are : (c : Counts) (a b : Net) → c.upper ≡ length a.face → c.lower ≡ length a.equations → a ≡ b → c ≡ counts_of b
counts-are c a b x y z = rw (← z, ← x, ← y)

counted-accepted : (ags : List Agent) (c : Counts) (a b : Net) → net_counted ags c a ≡ accepted b
    → (c ≡ counts_of b) × (any (loose (names_of ags (net_terms a))) (names_of ags (net_terms a)) ≡ false) × (a ≡ b)
unfolding net_counted
counted-accepted ags c a b h = go (eqb c.upper (length a.face) && eqb c.lower (length a.equations)) refl h
  where
    go : (t : Bool) → (eqb c.upper (length a.face) && eqb c.lower (length a.equations)) ≡ t → cond t (names_twice ags a) (refused 11 1) ≡ accepted b
        → (c ≡ counts_of b) × (any (loose (names_of ags (net_terms a))) (names_of ags (net_terms a)) ≡ false) × (a ≡ b)
    go true e k =
        let p = both (eqb c.upper (length a.face)) _ e in
        let q = (twice-accepted ags a b).0 k in
        (counts-are c a b (eqb-true c.upper (length a.face) p.0) (eqb-true c.lower (length a.equations) p.1) q.1, q.0, q.1)
    go false e k = absurd (let z : ◌≡◌ {A = ℕ} 0 1 = cc in omega arith)

-- Sizes.
net-sized : (ags : List Agent) (ts : List Term) (n : Net) → net_fault5 ags ts n ≡ false → (length n.face ≤ face_max) × (length n.equations ≤ net_equations_max)
unfolding net_fault5 big_net
net-sized ags ts n h =
    let p = neither (any big_node (nodes ts)) _ h in
    let q = neither _ (ltb net_names_max (length (different (names_of ags (net_terms n))))) p.1 in
    let r = neither _ (ltb net_cells_max (length (cells_of ags (net_terms n)))) q.0 in
    let u = neither (ltb face_max (length n.face)) (ltb net_equations_max (length n.equations)) r.0 in
    (ltb-false face_max (length n.face) u.0, ltb-false net_equations_max (length n.equations) u.1)

abbrev Sized : Net → Type 0
Sized n = (length n.face ≤ face_max) × (length n.equations ≤ net_equations_max)

sized_all : (ags : List Agent) (es : List Equation) (n : Net) → GoodEquations ags n es → Sized n → Sized (add_eqs n es)
unfolding GoodEquations add_eqs
sized_all ags [] n g s = s
sized_all ags (e ∷ es) n (g, gs) s = sized_all ags es (more_net n (terms_in e)) gs (net-sized ags (terms_in e) (more_net n (terms_in e)) g.no5)

face_all : (n : Net) → add_eqs (face_net n.face) n.equations ≡ n
unfolding face_net
face_all n = add_all n.equations (face_net n.face)

pub net-good-sized : (ags : List Agent) (n : Net) → GoodNet ags n → Sized n
net-good-sized ags n g =
    rw face_all at (sized_all ags n.equations (face_net n.face) g.good_equations (net-sized ags n.face (face_net n.face) g.good_face.no5))

small_after : (ags : List Agent) (ts : List Term) (n : Net) → net_fault5 ags ts n ≡ false → big_net ags n ≡ false
unfolding net_fault5
small_after ags ts n h = (neither (any big_node (nodes ts)) (big_net ags n) h).1

small_all : (ags : List Agent) (es : List Equation) (n : Net) → GoodEquations ags n es → big_net ags n ≡ false → big_net ags (add_eqs n es) ≡ false
unfolding GoodEquations add_eqs
small_all ags [] n g s = s
small_all ags (e ∷ es) n (g, gs) s = small_all ags es (more_net n (terms_in e)) gs (small_after ags (terms_in e) (more_net n (terms_in e)) g.no5)

-- A good net passes no size.
pub net-good-small : (ags : List Agent) (n : Net) → GoodNet ags n → big_net ags n ≡ false
net-good-small ags n g =
    rw face_all at (small_all ags n.equations (face_net n.face) g.good_equations (small_after ags n.face (face_net n.face) g.good_face.no5))

-- The lines of a printed net.
lines_of : Net → List Line
lines_of n = ended_line (head_of n) ∷ ended_line (write_face n.face) ∷ map line_for n.equations

-- A face and equations are read as a net exactly where they are that net's, and it is good so far.
pub record FaceAndEquations (ags : List Agent) (f : Line) (ls : List Line) (n : Net) : Type 0 where
  pub line_of_face : f ≡ ended_line (write_face n.face)
  pub equation_lines_lem : ls ≡ map ended_line (map write_equation n.equations)
  pub good_face : GoodTerms ags n.face (face_net n.face)
  pub good_equations : GoodEquations ags (face_net n.face) n.equations

lines-map : (es : List Equation) → map ended_line (map write_equation es) ≡ map line_for es
lines-map [] = refl
lines-map (e ∷ es) = rw (lines-map es)

pub lines_of_net : (ags : List Agent) (f : Line) (ls : List Line) (n : Net)
    → ((m : Net) × (face_line ags f ≡ fine m) × Reads (eq_line ags) m ls n) ↔ FaceAndEquations ags f ls n
unfolding face_net
lines_of_net ags f ls n = (to, from)
  where
    parts : (ts us : List Term) (es ds : List Equation) (m : Net) → ts ≡ us → es ≡ ds → face_net ts ≡ m
        → GoodEquations ags m es → GoodEquations ags (face_net us) ds
    parts ts us es ds m p q z g = rw (p, q) at (rw (← z) at g)

    to : (m : Net) × (face_line ags f ≡ fine m) × Reads (eq_line ags) m ls n → FaceAndEquations ags f ls n
    to (m, fe, r) =
        let w = (face-fine ags f m).0 fe in
        let v = to_equations ags ls m n r in
        let e : n ≡ record { face = w.0; equations = v.0 } = v.3 ∙ (ap (λ (x : Net). add_eqs x v.0) (sym w.3) ∙ add_all v.0 (face_net w.0)) in
        let tf : w.0 ≡ n.face = sym (ap (λ (x : Net). x.face) e) in
        let te : v.0 ≡ n.equations = sym (ap (λ (x : Net). x.equations) e) in
        record {
          line_of_face = w.1 ∙ ap (λ (x : List Term). ended_line (write_face x)) tf;
          equation_lines_lem = v.1 ∙ (ap (map line_for) te ∙ sym (lines-map n.equations));
          good_face = rw tf at w.2;
          good_equations = parts w.0 n.face v.0 n.equations m tf te w.3 v.2;
        }

    from : FaceAndEquations ags f ls n → (m : Net) × (face_line ags f ≡ fine m) × Reads (eq_line ags) m ls n
    from p = (
      face_net n.face,
      rw p.line_of_face (face_back ags n.face p.good_face),
      rw (p.equation_lines_lem, lines-map n.equations) (rw face_all at (of_equations ags n.equations (face_net n.face) p.good_equations)),
    )

made : (ags : List Agent) (c : Counts) (h f : Line) (ls : List Line) (a n : Net)
    → header_line word_net h ≡ fine c → FaceAndEquations ags f ls a → c ≡ counts_of n
    → any (loose (names_of ags (net_terms a))) (names_of ags (net_terms a)) ≡ false → a ≡ n
    → (h ∷ f ∷ ls ≡ lines_of n) × GoodNet ags n
unfolding lines_of
made ags c h f ls a n he p ce tw an =
    let w : h ≡ ended_line (head_of n) = ((header-fine word_net word_net_lem h (counts_of n)).0 (he ∙ ap fine ce)).0 in
    let q : FaceAndEquations ags f ls n = rw an at p in (
      cons-eq w (cons-eq q.line_of_face (q.equation_lines_lem ∙ lines-map n.equations)),
      record { good_face = q.good_face; good_equations = q.good_equations; twice = rw an at tw },
    )

to_face : (ags : List Agent) (h : Line) (c : Counts) (ls : List Line) (n : Net) → header_line word_net h ≡ fine c → face_and_eqs ags c ls ≡ accepted n
    → (h ∷ ls ≡ lines_of n) × GoodNet ags n
unfolding face_and_eqs
to_face ags h c [] n e k = absurd (let z : ◌≡◌ {A = ℕ} 0 1 = cc in omega arith)
to_face ags h c (f ∷ ls) n e k =
    let p = (line-accepted 2 (face_line ags f) _ n).0 k in
    let q = (after_accepted (read_lines (eq_line ags) 3 p.0 ls) (net_counted ags c) n).0 p.2 in
    let u = counted-accepted ags c q.0 n q.2 in
    let v = (lines_of_net ags f ls q.0).0 (p.0, p.1, (lines-accepted (eq_line ags) 3 p.0 ls q.0).0 q.1) in
    made ags c h f ls q.0 n e v u.0 u.1 u.2

to_printed : (ags : List Agent) (ls : List Line) (n : Net) → net_of_lines ags ls ≡ accepted n → (ls ≡ lines_of n) × GoodNet ags n
unfolding net_of_lines
to_printed ags [] n h = absurd (let z : ◌≡◌ {A = ℕ} 0 1 = cc in omega arith)
to_printed ags (l ∷ ls) n h =
    let p = (line-accepted 1 (header_line word_net l) _ n).0 h in to_face ags l p.0 ls n p.1 p.2

from-printed : (ags : List Agent) (n : Net) → GoodNet ags n → net_of_lines ags (lines_of n) ≡ accepted n
unfolding net_of_lines face_and_eqs net_counted lines_of
from-printed ags n g =
    let s = net-good-sized ags n g in
    (line-accepted 1 (header_line word_net (ended_line (head_of n))) _ n).1 (
      counts_of n,
      (header-fine word_net word_net_lem (ended_line (head_of n)) (counts_of n)).1 (refl, (omega (arith, s.0), omega (arith, s.1))),
      (line-accepted 2 (face_line ags (ended_line (write_face n.face))) _ n).1 (
        face_net n.face,
        face_back ags n.face g.good_face,
        (after_accepted (read_lines (eq_line ags) 3 (face_net n.face) (map line_for n.equations)) (net_counted ags (counts_of n)) n).1 (
          n,
          (lines-accepted (eq_line ags) 3 (face_net n.face) (map line_for n.equations) n).1
              (rw face_all at (of_equations ags n.equations (face_net n.face) g.good_equations)),
          rw (eq-eqb (length n.face) (length n.face) refl, eq-eqb (length n.equations) (length n.equations) refl)
              ((twice-accepted ags n n).1 (g.twice, refl)),
        ),
      ),
    )

written_lines : Net → List (List ℕ)
written_lines n = head_of n ∷ write_face n.face ∷ map write_equation n.equations

lines-written : (n : Net) → map ended_line (written_lines n) ≡ lines_of n
unfolding written_lines lines_of
lines-written n = rw (lines-map n.equations)

equation_newlines : (ags : List Agent) (es : List Equation) (n : Net) → GoodEquations ags n es → all (all (free 10)) (map write_equation es) ≡ true
unfolding GoodEquations all write_equation
equation_newlines ags [] n g = refl
equation_newlines ags (e ∷ es) n (g, gs) =
    pair (all (free 10) (write_equation e)) _
    (line_newlines word_eq (map spell (terms_in e)) words-plain.1 (spells-plain (terms_in e) g.spelt))
    (equation_newlines ags es (more_net n (terms_in e)) gs)

header_newlines : (m n : ℕ) → m < 10000 → n < 10000 → all (free 10) (write_header word_net m n) ≡ true
unfolding write_header
header_newlines m n h k = line_newlines word_net (decimal m ∷ decimal n ∷ []) (word-plain word_net word_net_lem) (two (decimal m) (decimal n) (decimal-plain m h) (decimal-plain n k))

written_newlines : (ags : List Agent) (n : Net) → GoodNet ags n → all (all (free 10)) (written_lines n) ≡ true
unfolding written_lines all write_face
written_newlines ags n g =
    let s = net-good-sized ags n g in
    pair (all (free 10) (head_of n)) _ (header_newlines (length n.face) (length n.equations) (omega (arith, s.0)) (omega (arith, s.1)))
    (pair (all (free 10) (write_face n.face)) _
    (line_newlines word_face (map spell n.face) words-plain.0 (spells-plain n.face g.good_face.spelt))
    (equation_newlines ags n.equations (face_net n.face) g.good_equations))

-- A net text is accepted and means n exactly where it is n printed, n is good, and the length is within the size.
pub net-accepted : (ags : List Agent) (text : List ℕ) (n : Net) → (read_net ags text ≡ accepted n) ↔ ((text ≡ print_net n) × GoodNet ags n × (length text ≤ text_max))
unfolding read_net print_net written_lines
net-accepted ags text n = (to (ltb text_max (length text)) refl, from)
  where
    to : (t : Bool) → ltb text_max (length text) ≡ t → cond t (refused 1 0) (net_of_lines ags (lines text)) ≡ accepted n
        → (text ≡ text_of (written_lines n)) × GoodNet ags n × (length text ≤ text_max)
    to true e h = absurd (let z : ◌≡◌ {A = ℕ} 0 1 = cc in omega arith)
    to false e h =
        let p = to_printed ags (lines text) n h in
        (text-ended text (written_lines n) (p.0 ∙ sym (lines-written n)), p.1, ltb-false text_max (length text) e)

    from : (text ≡ text_of (written_lines n)) × GoodNet ags n × (length text ≤ text_max)
        → cond (ltb text_max (length text)) (refused 1 0) (net_of_lines ags (lines text)) ≡ accepted n
    from (e, g, k) =
        let q : lines text ≡ lines_of n = ap lines e ∙ (lines-text (written_lines n) (written_newlines ags n g) ∙ lines-written n) in
        rw (le-ltb text_max (length text) k, q) (from-printed ags n g)

net-good-lines : (ags : List Agent) (n : Net) → GoodNet ags n → net_of_lines ags (lines (print_net n)) ≡ accepted n
unfolding print_net written_lines
net-good-lines ags n g = ap (net_of_lines ags) (lines-text (written_lines n) (written_newlines ags n g) ∙ lines-written n) ∙ from-printed ags n g

-- Two good nets that are printed alike are one.
pub net_print_unique : (ags : List Agent) (m n : Net) → GoodNet ags m → GoodNet ags n → print_net m ≡ print_net n → m ≡ n
net_print_unique ags m n g h e =
    let p : net_of_lines ags (lines (print_net m)) ≡ accepted m = net-good-lines ags m g in
    let q : net_of_lines ags (lines (print_net m)) ≡ accepted n = ap (λ t. net_of_lines ags (lines t)) e ∙ net-good-lines ags n h in cc
