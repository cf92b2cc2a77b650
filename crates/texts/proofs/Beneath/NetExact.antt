-- The reader of net texts stops at the earliest bad line, by the least number whose test holds of it; and what it answers after all lines.
use Rattle.std.specs.Prelude.{ℕ, ◌≡◌, Bool, true, false, not, ◌&&◌, ◌↔◌, ◌⊎◌, length}
use Rattle.std.proofs.Math.Path.{refl}
use Rattle.std.proofs.Common.{sym, ap, inl, inr, arith}
use mathlib.Core.List.{List, [], ◌∷◌}
use Rattle.std.proofs.Math.Option.{Option, none, some}
use Rattle.texts.specs.Bytes.{Word, Line, fault2, fields}
use Rattle.texts.specs.Terms.{Term}
use Rattle.texts.specs.Books.{Agent, Net, names_of, net_terms, word_net}
use Rattle.texts.specs.Answers.{fine, fault, OfText, refused, absent, holds, ◌>>=◌, need, read_lines, after}
use Rattle.texts.specs.RuleText.{Counts, header_line, terms_of}
use Rattle.texts.specs.NetText.{face_fields, eq_fields, net_fault5, net_fault7, net_judged, face_net, more_net, face_line, eq_line, net_lines, loose_line, unless_loose, names_twice, net_counted, face_and_eqs, net_of_lines}
use Rattle.texts.proofs.Beneath.Firsts.{Agrees, agrees_fine, agrees_skip, agrees_refuse, agrees_none, agrees_some, agrees_first}
use Rattle.texts.proofs.Beneath.Reading.{lines-accepted, lines-refused, After, before, behind, after_refused, AfterLine, here, later, line_refused}
use Rattle.texts.proofs.Beneath.RuleExact.{header-exact, counts-exact}
use Rattle.texts.proofs.Beneath.Stops.{First, NetLinesRefused, no_line, bad_header, no_face, bad_face, bad_line_lem, bad_count, bad_name}
use Rattle.texts.proofs.Beneath.LineTests.{net_tests, face_tests, eq_tests, Reads, NetCounted}

-- A line.
terms-agree : (ags : List Agent) (net : List Term → Net) (ts : List Term)
    → Agrees 5 (net_judged ags ts (net ts)) (net_fault5 ags ts (net ts) ∷ false ∷ net_fault7 ags ts ∷ [])
unfolding net_judged
terms-agree ags net ts =
    agrees_refuse (net_fault5 ags ts (net ts)) _ _ (agrees_skip _ _ (agrees_refuse (net_fault7 ags ts) _ _ (agrees_fine (net ts))))

-- The tests from number 4 on, by what is found.
tests4 : List Agent → (List Term → Net) → Bool → Option (List Term) → List Bool
tests4 ags net t ts = (t && absent ts) ∷ holds (λ us. net_fault5 ags us (net us)) ts ∷ false ∷ holds (net_fault7 ags) ts ∷ []

spelt-agree : (ags : List Agent) (net : List Term → Net) (o : Option (List Term))
    → Agrees 4 (need 4 o λ ts. net_judged ags ts (net ts)) (tests4 ags net true o)
unfolding tests4 absent holds
spelt-agree ags net none = agrees_none _ _
spelt-agree ags net (some ts) = agrees_some (λ ts. net_judged ags ts (net ts)) ts _ (terms-agree ags net ts)

fields-agree : (ags : List Agent) (net : List Term → Net) (o : Option (List Word))
    → Agrees 3 (need 3 o λ fs. need 4 (terms_of fs) λ ts. net_judged ags ts (net ts)) (absent o ∷ tests4 ags net (not (absent o)) (o >>= terms_of))
unfolding absent ◌>>=◌
fields-agree ags net none = agrees_none _ _
fields-agree ags net (some fs) = agrees_some (λ fs. need 4 (terms_of fs) λ ts. net_judged ags ts (net ts)) fs _ (spelt-agree ags net (terms_of fs))

pub face-exact : (ags : List Agent) (l : Line) (n : ℕ) → (face_line ags l ≡ fault n) ↔ First (face_tests ags l) n
unfolding face_line face_tests net_tests tests4
face-exact ags l n =
    agrees_first _ _ (agrees_skip _ _ (agrees_skip _ _ (agrees_refuse (fault2 l) _ _ (fields-agree ags face_net (face_fields (fields l.bytes)))))) n

pub eq-exact : (ags : List Agent) (m : Net) (l : Line) (n : ℕ) → (eq_line ags m l ≡ fault n) ↔ First (eq_tests ags m l) n
unfolding eq_line eq_tests net_tests tests4
eq-exact ags m l n =
    agrees_first _ _ (agrees_skip _ _ (agrees_skip _ _ (agrees_refuse (fault2 l) _ _ (fields-agree ags (more_net m) (eq_fields (fields l.bytes)))))) n

-- The earliest loose name.
twice-exact : (ags : List Agent) (n : Net) (m j : ℕ)
    → (names_twice ags n ≡ refused m j) ↔ ((loose_line ags (names_of ags (net_terms n)) 2 (net_lines n) ≡ some j) × (m ≡ 8))
unfolding names_twice unless_loose
twice-exact ags n m j = (to (loose_line ags (names_of ags (net_terms n)) 2 (net_lines n)), λ p. rw (p.0, p.1))
  where
    to : (o : Option ℕ) → unless_loose o n ≡ refused m j → (o ≡ some j) × (m ≡ 8)
    to none h = absurd (let z : ◌≡◌ {A = ℕ} 0 1 = cc in omega arith)
    to (some k) h = (let y : k ≡ j = cc in ap some y, (let x : 8 ≡ m = cc in sym x))

-- A text.
module _ (ags : List Agent) (n j : ℕ) where
  abbrev rest_of : Counts → List Line → Net → OfText Net
  rest_of c ls m = after (read_lines (eq_line ags) 3 m ls) (net_counted ags c)

  last : (l f : Line) (ls : List Line) (c : Counts) → header_line word_net l ≡ fine c → (m : Net) → face_line ags f ≡ fine m
      → (net : Net) → Reads (eq_line ags) m ls net
      → ((c.upper ≡ length net.face) × (c.lower ≡ length net.equations) × (names_twice ags net ≡ refused n j))
      ⊎ ((¬ ((c.upper ≡ length net.face) × (c.lower ≡ length net.equations))) × (n ≡ 11) × (j ≡ 1))
      → NetLinesRefused ags (l ∷ f ∷ ls) n j
  unfolding NetCounted
  last l f ls c e m fe net r (inl (p, q, x)) =
      let t = (twice-exact ags net n j).0 x in bad_name l f ls refl c e m fe net r (p, q) t.0 t.1
  last l f ls c e m fe net r (inr (u, x, y)) = bad_count l f ls refl c e m fe net r u x y

  mid : (l f : Line) (ls : List Line) (c : Counts) → header_line word_net l ≡ fine c → (m : Net) → face_line ags f ≡ fine m
      → After (read_lines (eq_line ags) 3 m ls) (net_counted ags c) n j → NetLinesRefused ags (l ∷ f ∷ ls) n j
  unfolding net_counted
  mid l f ls c e m fe (before k) =
      let p = (lines-refused (eq_line ags) 3 m ls n j).0 k in bad_line_lem l f ls refl c e m fe p.0 p.2 p.1
  mid l f ls c e m fe (behind net k x) =
      last l f ls c e m fe net ((lines-accepted (eq_line ags) 3 m ls net).0 k)
      ((counts-exact c.upper c.lower (length net.face) (length net.equations) n j (names_twice ags net)).0 x)

  face : (l f : Line) (ls : List Line) (c : Counts) → header_line word_net l ≡ fine c
      → AfterLine 2 (face_line ags f) (rest_of c ls) n j → NetLinesRefused ags (l ∷ f ∷ ls) n j
  face l f ls c e (here k q) = bad_face l f ls refl c e ((face-exact ags f n).0 k) q
  face l f ls c e (later m fe k) = mid l f ls c e m fe ((after_refused (read_lines (eq_line ags) 3 m ls) (net_counted ags c) n j).0 k)

  after_header : (l : Line) (ls : List Line) (c : Counts) → header_line word_net l ≡ fine c → face_and_eqs ags c ls ≡ refused n j → NetLinesRefused ags (l ∷ ls) n j
  unfolding face_and_eqs
  after_header l [] c e h = let x : 3 ≡ n = cc in let y : 2 ≡ j = cc in no_face l refl c e (sym x) (sym y)
  after_header l (f ∷ ls) c e h = face l f ls c e ((line_refused 2 (face_line ags f) (rest_of c ls) n j).0 h)

  header : (l : Line) (ls : List Line) → AfterLine 1 (header_line word_net l) (λ c. face_and_eqs ags c ls) n j → NetLinesRefused ags (l ∷ ls) n j
  header l ls (here e q) = bad_header l ls refl ((header-exact word_net l n).0 e) q
  header l ls (later c e k) = after_header l ls c e k

  to_lines : (ls : List Line) → net_of_lines ags ls ≡ refused n j → NetLinesRefused ags ls n j
  unfolding net_of_lines
  to_lines [] h = let x : 3 ≡ n = cc in let y : 1 ≡ j = cc in no_line refl (sym x) (sym y)
  to_lines (l ∷ ls) h = header l ls ((line_refused 1 (header_line word_net l) (λ c. face_and_eqs ags c ls) n j).0 h)

  by_header : (h : Line) (rest : List Line) (c : Counts) → header_line word_net h ≡ fine c → face_and_eqs ags c rest ≡ refused n j → net_of_lines ags (h ∷ rest) ≡ refused n j
  unfolding net_of_lines
  by_header h rest c k x = (line_refused 1 (header_line word_net h) _ n j).1 (later c k x)

  by_face : (f : Line) (rest : List Line) (c : Counts) (m : Net) → face_line ags f ≡ fine m → rest_of c rest m ≡ refused n j → face_and_eqs ags c (f ∷ rest) ≡ refused n j
  unfolding face_and_eqs
  by_face f rest c m k x = (line_refused 2 (face_line ags f) _ n j).1 (later m k x)

  by_lines : (rest : List Line) (c : Counts) (m net : Net) → Reads (eq_line ags) m rest net
      → ((c.upper ≡ length net.face) × (c.lower ≡ length net.equations) × (names_twice ags net ≡ refused n j))
      ⊎ ((¬ ((c.upper ≡ length net.face) × (c.lower ≡ length net.equations))) × (n ≡ 11) × (j ≡ 1))
      → rest_of c rest m ≡ refused n j
  unfolding net_counted
  by_lines rest c m net r w =
      (after_refused (read_lines (eq_line ags) 3 m rest) (net_counted ags c) n j).1 (behind net ((lines-accepted (eq_line ags) 3 m rest net).1 r)
      ((counts-exact c.upper c.lower (length net.face) (length net.equations) n j (names_twice ags net)).1 w))

  from-lines : (ls : List Line) → NetLinesRefused ags ls n j → net_of_lines ags ls ≡ refused n j
  unfolding net_of_lines face_and_eqs NetCounted
  from-lines ls (no_line e x y) = rw (e, x, y)
  from-lines ls (bad_header h rest e f y) = rw e ((line_refused 1 (header_line word_net h) _ n j).1 (here ((header-exact word_net h n).1 f) y))
  from-lines ls (no_face h e c k x y) = rw e (by_header h [] c k (rw (x, y)))
  from-lines ls (bad_face h f rest e c k t y) =
      rw e (by_header h (f ∷ rest) c k ((line_refused 2 (face_line ags f) _ n j).1 (here ((face-exact ags f n).1 t) y)))
  from-lines ls (bad_line_lem h f rest e c k m fe i st y) =
      rw e (by_header h (f ∷ rest) c k (by_face f rest c m fe
      ((after_refused (read_lines (eq_line ags) 3 m rest) (net_counted ags c) n j).1 (before ((lines-refused (eq_line ags) 3 m rest n j).1 (i, y, st))))))
  from-lines ls (bad_count h f rest e c k m fe net r u x y) =
      rw e (by_header h (f ∷ rest) c k (by_face f rest c m fe (by_lines rest c m net r (inr (u, x, y)))))
  from-lines ls (bad_name h f rest e c k m fe net r w l x) =
      rw e (by_header h (f ∷ rest) c k (by_face f rest c m fe (by_lines rest c m net r (inl (w.0, w.1, (twice-exact ags net n j).1 (l, x))))))

-- The lines of a net text are refused exactly so.
pub net_lines-refused : (ags : List Agent) (ls : List Line) (n j : ℕ)
    → (net_of_lines ags ls ≡ refused n j) ↔ NetLinesRefused ags ls n j
net_lines-refused ags ls n j = (to_lines ags n j ls, from-lines ags n j ls)
