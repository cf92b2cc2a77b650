-- A line of a net text is fine exactly where it is the printed form of a good face or of a good equation.
use Rattle.std.specs.Prelude.{ℕ, ◌≡◌, refl, Bool, true, false, cond, ◌↔◌, List, [], ◌∷◌, map}
use Rattle.std.proofs.Common.{sym, ap, ◌∙◌, arith}
use Rattle.std.proofs.Math.Option.{none, some}
use Rattle.texts.specs.Bytes.{Word, Line, all, same, word_byte, fault2, fields, letter, digit}
use Rattle.texts.specs.Terms.{Term, spell, worded}
use Rattle.texts.specs.Books.{Agent, Equation, Net, write_face, write_equation, word_face, word_eq}
use Rattle.texts.specs.Answers.{fine, need, refuse}
use Rattle.texts.specs.RuleText.{terms_of}
use Rattle.texts.specs.NetText.{face_fields, eq_fields, net_fault5, net_fault7, net_judged, face_net, more_net, face_line, eq_line}
use Rattle.texts.proofs.Beneath.Tools.{same_eq}
use Rattle.texts.specs.Bytes.{ended_line}
use Rattle.texts.proofs.Beneath.Splitting.{fields-line, line-fields}
use Rattle.texts.proofs.Beneath.Plain.{in_field, Plain, Plains, spells-plain, line-tabs, line_bytes}
use Rattle.texts.proofs.Beneath.Means.{refuse-fine, need-fine, nothing, line-ended, terms-spell, spell-terms, some_plain}
use Rattle.texts.specs.Good.{GoodTerms, terms_in}

-- A line that is fine.
pub words-plain : (Plain word_face) × (Plain word_eq)
unfolding all in_field word_byte letter digit
words-plain = (refl, refl)

judged-fine : (ags : List Agent) (ts : List Term) (n n' : Net) → all worded ts ≡ true → net_judged ags ts n ≡ fine n' → GoodTerms ags ts n × (n ≡ n')
unfolding net_judged
judged-fine ags ts n n' s h =
    let p5 = refuse-fine 5 (net_fault5 ags ts n) _ h in
    let p7 = refuse-fine 7 (net_fault7 ags ts) _ p5.1 in
    (record { spelt = s; no5 = p5.0; no7 = p7.0 }, (let z : n ≡ n' = cc p7.1 in z))

fine-judged : (ags : List Agent) (ts : List Term) (n : Net) → GoodTerms ags ts n → net_judged ags ts n ≡ fine n
unfolding net_judged refuse
fine-judged ags ts n g = rw (g.no5, g.no7)

-- `face`.
pub face_fields_lem : (fs gs : List Word) → face_fields fs ≡ some gs → fs ≡ word_face ∷ gs
unfolding face_fields
face_fields_lem [] gs h = nothing h
face_fields_lem (w ∷ fs) gs h = go (same w word_face) refl h
  where
    go : (t : Bool) → same w word_face ≡ t → cond t (some fs) none ≡ some gs → w ∷ fs ≡ word_face ∷ gs
    go true e k = let z : fs ≡ gs = cc in rw (same_eq w word_face e, z)
    go false e k = nothing k

pub fields-face : (gs : List Word) → face_fields (word_face ∷ gs) ≡ some gs
unfolding face_fields same
fields-face gs = refl

pub face_back : (ags : List Agent) (ts : List Term) → GoodTerms ags ts (face_net ts) → face_line ags (ended_line (write_face ts)) ≡ fine (face_net ts)
unfolding face_line refuse need ended_line write_face
face_back ags ts g =
    let p = spells-plain ts g.spelt in
    rw (
      line_bytes word_face (map spell ts) words-plain.0 p,
      fields-line word_face (map spell ts) (line-tabs _ (some_plain word_face _ words-plain.0 p)),
      fields-face,
      terms-spell ts g.spelt,
    )
    (fine-judged ags ts (face_net ts) g)

pub face-fine : (ags : List Agent) (l : Line) (n : Net)
    → (face_line ags l ≡ fine n) ↔ ((ts : List Term) × (l ≡ ended_line (write_face ts)) × GoodTerms ags ts (face_net ts) × (face_net ts ≡ n))
unfolding face_line write_face
face-fine ags l n = (to, from)
  where
    to : face_line ags l ≡ fine n → (ts : List Term) × (l ≡ ended_line (write_face ts)) × GoodTerms ags ts (face_net ts) × (face_net ts ≡ n)
    to h =
        let p = refuse-fine 2 (fault2 l) _ h in
        let q = need-fine 3 (face_fields (fields l.bytes)) _ p.1 in
        let u = need-fine 4 (terms_of q.0) _ q.2 in
        let s = spell-terms q.0 u.0 u.1 in
        let j = judged-fine ags u.0 (face_net u.0) n s.1 u.2 in
        let e : fields l.bytes ≡ word_face ∷ map spell u.0 = face_fields_lem (fields l.bytes) q.0 q.1 ∙ ap (λ (x : List Word). word_face ∷ x) (sym s.0) in
        (u.0, line-ended l p.0 ∙ ap ended_line (sym (line-fields l.bytes word_face _ e)), j.0, j.1)

    from : (ts : List Term) × (l ≡ ended_line (write_face ts)) × GoodTerms ags ts (face_net ts) × (face_net ts ≡ n) → face_line ags l ≡ fine n
    from (ts, e, g, z) = rw (e, ← z) (face_back ags ts g)

pub eq_fields_lem : (fs gs : List Word) → eq_fields fs ≡ some gs → (f : Word) × (g : Word) × (fs ≡ word_eq ∷ f ∷ g ∷ []) × (gs ≡ f ∷ g ∷ [])
unfolding eq_fields
eq_fields_lem [] gs h = nothing h
eq_fields_lem (w ∷ []) gs h = nothing h
eq_fields_lem (w ∷ f ∷ []) gs h = nothing h
eq_fields_lem (w ∷ f ∷ g ∷ []) gs h = go (same w word_eq) refl h
  where
    go : (t : Bool) → same w word_eq ≡ t → cond t (some (f ∷ g ∷ [])) none ≡ some gs
        → (a : Word) × (b : Word) × (w ∷ f ∷ g ∷ [] ≡ word_eq ∷ a ∷ b ∷ []) × (gs ≡ a ∷ b ∷ [])
    go true e k = let z : f ∷ g ∷ [] ≡ gs = cc in (f, g, rw (same_eq w word_eq e), sym z)
    go false e k = nothing k
eq_fields_lem (w ∷ f ∷ g ∷ h ∷ hs) gs k = nothing k

pub fields-eq : (f g : Word) → eq_fields (word_eq ∷ f ∷ g ∷ []) ≡ some (f ∷ g ∷ [])
unfolding eq_fields same
fields-eq f g = refl

pub eq_back : (ags : List Agent) (n : Net) (e : Equation) → GoodTerms ags (terms_in e) (more_net n (terms_in e))
    → eq_line ags n (ended_line (write_equation e)) ≡ fine (more_net n (terms_in e))
unfolding eq_line refuse need ended_line write_equation
eq_back ags n e g =
    let p : Plains (spell e.left ∷ spell e.right ∷ []) = spells-plain (terms_in e) g.spelt in
    rw (
      line_bytes word_eq (spell e.left ∷ spell e.right ∷ []) words-plain.1 p,
      fields-line word_eq (spell e.left ∷ spell e.right ∷ []) (line-tabs _ (some_plain word_eq _ words-plain.1 p)),
      fields-eq,
      terms-spell (terms_in e) g.spelt,
    )
    (fine-judged ags (terms_in e) (more_net n (terms_in e)) g)

-- Two fields are two terms.
pub two_terms : (ts : List Term) (f g : Word) → map spell ts ≡ f ∷ g ∷ [] → (e : Equation) × (ts ≡ terms_in e)
two_terms [] f g h = absurd (let z : ◌≡◌ {A = ℕ} 0 1 = cc in omega arith)
two_terms (s ∷ []) f g h = absurd (let z : ◌≡◌ {A = ℕ} 0 1 = cc in omega arith)
two_terms (s ∷ t ∷ []) f g h = (record { left = s; right = t }, refl)
two_terms (s ∷ t ∷ u ∷ us) f g h = absurd (let z : ◌≡◌ {A = ℕ} 0 1 = cc in omega arith)

pub eq-fine : (ags : List Agent) (n n' : Net) (l : Line)
    → (eq_line ags n l ≡ fine n')
    ↔ ((e : Equation) × (l ≡ ended_line (write_equation e)) × GoodTerms ags (terms_in e) (more_net n (terms_in e)) × (more_net n (terms_in e) ≡ n'))
unfolding eq_line write_equation
eq-fine ags n n' l = (to, from)
  where
    made : (ts : List Term) (e : Equation) (fs : List Word) → ts ≡ terms_in e → l ≡ ended_line l.bytes → fields l.bytes ≡ word_eq ∷ map spell ts
        → GoodTerms ags ts (more_net n ts) → more_net n ts ≡ n'
        → (e : Equation) × (l ≡ ended_line (write_equation e)) × GoodTerms ags (terms_in e) (more_net n (terms_in e)) × (more_net n (terms_in e) ≡ n')
    made ts e fs z le fe g m =
        (e, le ∙ ap ended_line (sym (line-fields l.bytes word_eq (map spell (terms_in e)) (rw z at fe))), rw z at g, rw z at m)

    to : eq_line ags n l ≡ fine n'
        → (e : Equation) × (l ≡ ended_line (write_equation e)) × GoodTerms ags (terms_in e) (more_net n (terms_in e)) × (more_net n (terms_in e) ≡ n')
    to h =
        let p = refuse-fine 2 (fault2 l) _ h in
        let q = need-fine 3 (eq_fields (fields l.bytes)) _ p.1 in
        let u = need-fine 4 (terms_of q.0) _ q.2 in
        let s = spell-terms q.0 u.0 u.1 in
        let f = eq_fields_lem (fields l.bytes) q.0 q.1 in
        let j = judged-fine ags u.0 (more_net n u.0) n' s.1 u.2 in
        let e = two_terms u.0 f.0 f.1 (s.0 ∙ f.3) in
        made u.0 e.0 q.0 e.1 (line-ended l p.0) (f.2 ∙ ap (λ (x : List Word). word_eq ∷ x) (sym f.3 ∙ sym s.0)) j.0 j.1

    from : (e : Equation) × (l ≡ ended_line (write_equation e)) × GoodTerms ags (terms_in e) (more_net n (terms_in e)) × (more_net n (terms_in e) ≡ n') → eq_line ags n l ≡ fine n'
    from (e, k, g, z) = rw (k, ← z) (eq_back ags n e g)
