-- The least number by which a line of a net text is wrong is that of the first of the reader's tests to hold.
use Prim.Native.Nat.{ℕ, zero, suc, ◌≤◌}
use Rattle.std.proofs.Math.Path.{◌≡◌, refl, sym, ap}
use Rattle.std.proofs.Common.{◌∙◌, arith}
use Rattle.std.specs.Prelude.{Bool, not, ◌↔◌}
use Rattle.std.proofs.Math.Bool.{true, false}
use mathlib.Core.List.{List, [], ◌∷◌, map}
use Rattle.std.proofs.Math.Option.{Option, none, some}
use Rattle.std.proofs.Math.ListN.{get_or}
use Rattle.texts.specs.Bytes.{Word, Line, all, fields, line_of}
use Rattle.texts.specs.Terms.{Term, spell, worded}
use Rattle.texts.specs.Books.{Agent, Equation, Net, write_face, write_equation, word_net, word_face, word_eq}
use Rattle.texts.specs.Answers.{absent, holds, ◌>>=◌}
use Rattle.texts.specs.RuleText.{header_of, terms_of}
use Rattle.texts.specs.NetText.{face_fields, eq_fields, net_fault5, net_fault7, face_net, more_net}
use Rattle.texts.specs.Refused.{NetSoFar, headed, faced, NetFields, NetTerms, NetWrong, two, three, four, five, seven}
use Rattle.texts.specs.Good.{terms_in}
use Rattle.texts.proofs.Beneath.Tools.{never, both, found}
use Rattle.texts.proofs.Beneath.Splitting.{fields-line, line-fields}
use Rattle.texts.proofs.Beneath.Plain.{spells-plain, line-tabs}
use Rattle.texts.proofs.Beneath.Means.{header-absent, terms-spell, spell-terms, some_plain}
use Rattle.texts.proofs.Beneath.NetLines.{words-plain, face_fields_lem, fields-face, eq_fields_lem, fields-eq, two_terms}
use Rattle.texts.proofs.Beneath.LineTests.{header_tests, net_tests, face_tests, eq_tests}
use Rattle.texts.proofs.Beneath.Stops.{First}
use Rattle.texts.proofs.Beneath.Firsts.{Least, first_exact}

-- A header.
header-fields : {fs : List Word} → NetFields NetSoFar.nothing fs → absent (header_of word_net fs) ≡ true → ⊥
header-fields (NetFields.header m n p q) h = (header-absent word_net _).0 h (m, n, p, q, refl)

no_terms : {A : Type 0} {s : NetSoFar} {bs : List ℕ} {ts : List Term} {t : Net} → NetTerms s bs ts t → s ≡ NetSoFar.nothing → A
no_terms (NetTerms.face w) e = absurd (let z : ◌≡◌ {A = ℕ} 0 1 = cc in omega arith)
no_terms (NetTerms.eq q w) e = absurd (let z : ◌≡◌ {A = ℕ} 0 1 = cc in omega arith)

pub header_first : (ags : List Agent) (l : Line) (n : ℕ) → First (header_tests word_net l) n ↔ Least (NetWrong ags NetSoFar.nothing l) n
unfolding header_tests
header_first ags l = first_exact (header_tests word_net l) (NetWrong ags NetSoFar.nothing l) gives given
  where
    gives : (m : ℕ) → get_or (header_tests word_net l) m false ≡ true → NetWrong ags NetSoFar.nothing l m
    gives zero h = never h
    gives (suc zero) h = never h
    gives (suc (suc zero)) h = two h
    gives (suc (suc (suc zero))) h = three (λ f. header-fields f h)
    gives (suc (suc (suc (suc m)))) h = never h

    given : (m : ℕ) → NetWrong ags NetSoFar.nothing l m → (k : ℕ) × (k ≤ m) × (get_or (header_tests word_net l) k false ≡ true)
    given m (two h) = (2, omega arith, h)
    given m (three h) = (3, omega arith, (header-absent word_net (fields l.bytes)).1 λ (m, n, p, q, e). h (rw e (NetFields.header m n p q)))
    given m (four o h) = absurd (o refl)
    given m (five t h) = no_terms t refl
    given m (seven t h) = no_terms t refl

-- A line of terms, by the fields that the reader finds.
module _ (ags : List Agent) (s : NetSoFar) (net : List Term → Net) (l : Line) (fs : Option (List Word)) (go_on : ¬ (s ≡ NetSoFar.nothing))
    (no_fields : (absent fs ≡ true) ↔ (¬ NetFields s (fields l.bytes)))
    (spelt : (ts : List Term) (t : Net) → NetTerms s l.bytes ts t → ((fs >>= terms_of) ≡ some ts) × (t ≡ net ts))
    (found-terms : (ts : List Term) → (fs >>= terms_of) ≡ some ts → NetTerms s l.bytes ts (net ts)) where
  terms_give : (test : List Term → Net → Bool) → holds (λ us. test us (net us)) (fs >>= terms_of) ≡ true
      → (ts : List Term) × NetTerms s l.bytes ts (net ts) × (test ts (net ts) ≡ true)
  unfolding holds
  terms_give test h = go (fs >>= terms_of) refl h
    where
      go : (o : Option (List Term)) → (fs >>= terms_of) ≡ o → holds (λ us. test us (net us)) o ≡ true
          → (ts : List Term) × NetTerms s l.bytes ts (net ts) × (test ts (net ts) ≡ true)
      go none e x = never x
      go (some ts) e x = (ts, found-terms ts e, x)

  terms-given : (test : List Term → Net → Bool) {ts : List Term} {t : Net} → NetTerms s l.bytes ts t → test ts t ≡ true
      → holds (λ us. test us (net us)) (fs >>= terms_of) ≡ true
  unfolding holds
  terms-given test {ts} {t} q h = let p = spelt ts t q in rw p.0 (ap (test ts) (sym p.1) ∙ h)

  none_spelt : (absent (fs >>= terms_of) ≡ true) ↔ (¬ ((ts : List Term) × (t : Net) × NetTerms s l.bytes ts t))
  unfolding absent
  none_spelt = (λ h (ts, t, q). never (sym (ap absent (spelt ts t q).0) ∙ h), λ h. go h (fs >>= terms_of) refl)
    where
      go : ¬ ((ts : List Term) × (t : Net) × NetTerms s l.bytes ts t) → (o : Option (List Term)) → (fs >>= terms_of) ≡ o → absent o ≡ true
      go h none e = refl
      go h (some ts) e = absurd (h (ts, net ts, found-terms ts e))

  terms_first : (n : ℕ) → First (net_tests ags net l fs) n ↔ Least (NetWrong ags s l) n
  unfolding net_tests
  terms_first = first_exact (net_tests ags net l fs) (NetWrong ags s l) gives given
    where
      gives : (m : ℕ) → get_or (net_tests ags net l fs) m false ≡ true → NetWrong ags s l m
      gives zero h = never h
      gives (suc zero) h = never h
      gives (suc (suc zero)) h = two h
      gives (suc (suc (suc zero))) h = three (no_fields.0 h)
      gives (suc (suc (suc (suc zero)))) h = four go_on (none_spelt.0 (both (not (absent fs)) (absent (fs >>= terms_of)) h).1)
      gives (suc (suc (suc (suc (suc zero))))) h = let p = terms_give (net_fault5 ags) h in five p.1 p.2
      gives (suc (suc (suc (suc (suc (suc zero)))))) h = never h
      gives (suc (suc (suc (suc (suc (suc (suc zero))))))) h = let p = terms_give (λ ts t. net_fault7 ags ts) h in seven p.1 p.2
      gives (suc (suc (suc (suc (suc (suc (suc (suc m)))))))) h = never h

      spelling : (t : Bool) → absent fs ≡ t → absent (fs >>= terms_of) ≡ true → (k : ℕ) × (k ≤ 4) × (get_or (net_tests ags net l fs) k false ≡ true)
      spelling true e h = (3, omega arith, e)
      spelling false e h = (4, omega arith, rw (e, h))

      given : (m : ℕ) → NetWrong ags s l m → (k : ℕ) × (k ≤ m) × (get_or (net_tests ags net l fs) k false ≡ true)
      given m (two h) = (2, omega arith, h)
      given m (three h) = (3, omega arith, no_fields.1 h)
      given m (four o h) = spelling (absent fs) refl (none_spelt.1 h)
      given m (five q h) = (5, omega arith, terms-given (net_fault5 ags) q h)
      given m (seven q h) = (7, omega arith, terms-given (λ ts t. net_fault7 ags ts) q h)

-- `face`.
module _ (ags : List Agent) (i k : ℕ) (l : Line) where
  face-found : {fs : List Word} → NetFields (headed i k) fs → absent (face_fields fs) ≡ false
  unfolding absent
  face-found (NetFields.face {fs = gs}) = rw (fields-face gs)

  face_none : (absent (face_fields (fields l.bytes)) ≡ true) ↔ (¬ NetFields (headed i k) (fields l.bytes))
  unfolding absent
  face_none = (λ h f. never (sym (face-found f) ∙ h), λ h. go h (face_fields (fields l.bytes)) refl)
    where
      go : ¬ NetFields (headed i k) (fields l.bytes) → (o : Option (List Word)) → face_fields (fields l.bytes) ≡ o → absent o ≡ true
      go h none e = refl
      go h (some gs) e = absurd (h (rw (face_fields_lem (fields l.bytes) gs e) NetFields.face))

  face-spelt : {bs : List ℕ} {ts : List Term} {t : Net} → NetTerms (headed i k) bs ts t
      → ((face_fields (fields bs) >>= terms_of) ≡ some ts) × (t ≡ face_net ts)
  unfolding write_face ◌>>=◌
  face-spelt {ts = ts} (NetTerms.face w) = (
    rw (
      fields-line word_face (map spell ts) (line-tabs _ (some_plain word_face (map spell ts) words-plain.0 (spells-plain ts w))),
      fields-face (map spell ts),
      terms-spell ts w,
    ),
    refl,
  )

  spelt-face : (ts : List Term) → (face_fields (fields l.bytes) >>= terms_of) ≡ some ts → NetTerms (headed i k) l.bytes ts (face_net ts)
  unfolding write_face
  spelt-face ts h =
      let p = found (face_fields (fields l.bytes)) terms_of h in
      let q = spell-terms p.0 ts p.2 in
      let e : fields l.bytes ≡ word_face ∷ map spell ts = face_fields_lem (fields l.bytes) p.0 p.1 ∙ ap (λ (x : List Word). word_face ∷ x) (sym q.0) in
      let w : NetTerms (headed i k) (line_of word_face (map spell ts)) ts (face_net ts) = NetTerms.face q.1 in
      rw (line-fields l.bytes word_face (map spell ts) e) at w

  pub face_first : (n : ℕ) → First (face_tests ags l) n ↔ Least (NetWrong ags (headed i k) l) n
  unfolding face_tests
  face_first =
      terms_first ags (headed i k) face_net l (face_fields (fields l.bytes)) (λ e. absurd (let z : ◌≡◌ {A = ℕ} 0 1 = cc in omega arith))
      face_none (λ ts t q. face-spelt q) spelt-face

-- `eq`.
module _ (ags : List Agent) (i k : ℕ) (m : Net) (l : Line) where
  eq-found : {fs : List Word} → NetFields (faced i k m) fs → absent (eq_fields fs) ≡ false
  unfolding absent
  eq-found (NetFields.eq {f = f} {g = g}) = rw (fields-eq f g)

  eq_none : (absent (eq_fields (fields l.bytes)) ≡ true) ↔ (¬ NetFields (faced i k m) (fields l.bytes))
  unfolding absent
  eq_none = (λ h f. never (sym (eq-found f) ∙ h), λ h. go h (eq_fields (fields l.bytes)) refl)
    where
      go : ¬ NetFields (faced i k m) (fields l.bytes) → (o : Option (List Word)) → eq_fields (fields l.bytes) ≡ o → absent o ≡ true
      go h none e = refl
      go h (some gs) e = let p = eq_fields_lem (fields l.bytes) gs e in absurd (h (rw p.2 NetFields.eq))

  eq-spelt : {bs : List ℕ} {ts : List Term} {t : Net} → NetTerms (faced i k m) bs ts t
      → ((eq_fields (fields bs) >>= terms_of) ≡ some ts) × (t ≡ more_net m ts)
  unfolding write_equation ◌>>=◌
  eq-spelt (NetTerms.eq e w) =
      let gs : List Word = spell e.left ∷ spell e.right ∷ [] in (
        rw (
          fields-line word_eq gs (line-tabs (word_eq ∷ gs) (some_plain word_eq gs words-plain.1 (spells-plain (terms_in e) w))),
          fields-eq,
          terms-spell (terms_in e) w,
        ),
        refl,
      )

  spelt-eq : (ts : List Term) → (eq_fields (fields l.bytes) >>= terms_of) ≡ some ts → NetTerms (faced i k m) l.bytes ts (more_net m ts)
  unfolding write_equation
  spelt-eq ts h =
      let p = found (eq_fields (fields l.bytes)) terms_of h in
      let q = spell-terms p.0 ts p.2 in
      let f = eq_fields_lem (fields l.bytes) p.0 p.1 in
      let e = two_terms ts f.0 f.1 (q.0 ∙ f.3) in
      made e.0 e.1 q.1 (f.2 ∙ ap (λ (x : List Word). word_eq ∷ x) (sym f.3 ∙ sym q.0))
    where
      made : (e : Equation) → ts ≡ terms_in e → all worded ts ≡ true → fields l.bytes ≡ word_eq ∷ map spell ts
          → NetTerms (faced i k m) l.bytes ts (more_net m ts)
      made e z w f =
          let v : NetTerms (faced i k m) (line_of word_eq (map spell (terms_in e))) (terms_in e) (more_net m (terms_in e)) = NetTerms.eq e (rw z at w) in
          let x : line_of word_eq (map spell (terms_in e)) ≡ l.bytes = line-fields l.bytes word_eq (map spell (terms_in e)) (rw z at f) in
          rw z (rw x at v)

  pub eq_first : (n : ℕ) → First (eq_tests ags m l) n ↔ Least (NetWrong ags (faced i k m) l) n
  unfolding eq_tests
  eq_first =
      terms_first ags (faced i k m) (more_net m) l (eq_fields (fields l.bytes)) (λ e. absurd (let z : ◌≡◌ {A = ℕ} 0 1 = cc in omega arith))
      eq_none (λ ts t q. eq-spelt q) spelt-eq
