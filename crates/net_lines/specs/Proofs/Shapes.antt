-- The tests of a line's shape.
use Rattle.std.specs.Prelude.{ℕ, ◌<◌, ◌≤◌, ◌≡◌, Bool, true, false, cond, eqb, List, [], ◌∷◌, length, get_or, drop, Err}
use Rattle.std.proofs.Math.Path.{refl}
use Rattle.std.proofs.Common.{sym, ap, ◌∙◌, arith}
use Rattle.std.proofs.Math.Option.{Option, none, some}
use Rattle.std.proofs.Common.{lt-ltb, le-ltb, ne_eqb}
use Rattle.parts.specs.declared.faults.Fault.TheVariants.{BadByte, BadRecord, Misspelt}
use Rattle.texts.specs.Bytes.{Word, same, fault2, fields}
use Rattle.texts.specs.Terms.{Term}
use Rattle.texts.specs.Books.{word_face, word_eq}
use Rattle.texts.specs.Answers.{fault, absent, need, refuse}
use Rattle.texts.specs.RuleText.{terms_of}
use Rattle.texts.specs.NetText.{face_fields, eq_fields}
use Rattle.texts.specs.Bytes.{ended_line}
use Rattle.scan.specs.Places.{bad_at}
use Rattle.scan.specs.Laws.Placing.{bad-fault}
use Rattle.scan.proofs.Beneath.Cutting.{count-cons}
use Rattle.texts.proofs.Beneath.Tools.{never, never'}
use Rattle.net_lines.specs.Records.{passing, Spelt, Shaped}

module _ (line : List ℕ) (b : ℕ) (eb : b ≡ bad_at line) where
  pub shape_2 : (form : List Word → Option (List Word)) → b < length line → Shaped form line (Err BadByte)
  unfolding passing refuse
  shape_2 form h g = rw (bad-fault line ∙ lt-ltb (bad_at line) (length line) (let e = eb in omega (arith, e)))

  module _ (ok : length line ≤ b) (formed : Bool) (form : List Word → Option (List Word)) (is : form (fields line) ≡ cond formed (some (drop 1 (fields line))) none) where
    no_2 : fault2 (ended_line line) ≡ false
    no_2 = bad-fault line ∙ le-ltb (bad_at line) (length line) (let e = eb in omega (arith, e))

    pub shape_3 : formed ≡ false → Shaped form line (Err BadRecord)
    unfolding passing refuse need
    shape_3 h g = rw (no_2, is, h)

    module _ (yes : formed ≡ true) (t : Bool) (et : t ≡ absent (terms_of (drop 1 (fields line)))) where
      pub shape_4 : t ≡ true → Shaped form line (Err Misspelt)
      unfolding passing refuse need absent
      shape_4 h g = go (terms_of (drop 1 (fields line))) refl
        where
          go : (o : Option (List Term)) → terms_of (drop 1 (fields line)) ≡ o → passing form line g ≡ fault 4
          go none e = rw (no_2, is, yes, e)
          go (some us) e = never' (sym h ∙ et ∙ rw e)

      pub shape_fine : t ≡ false → Spelt form line
      unfolding passing refuse need absent
      shape_fine h = go (terms_of (drop 1 (fields line))) refl
        where
          go : (o : Option (List Term)) → terms_of (drop 1 (fields line)) ≡ o → Spelt form line
          go none e = never (sym h ∙ et ∙ rw e)
          go (some us) e = record { terms = us; spelt = e; goes = λ g. rw (no_2, is, yes, e) }

-- The record's word.
some_field : (l : List ℕ) → 1 ≤ length (fields l)
unfolding fields
some_field [] = omega arith
some_field (b ∷ bs) = omega (arith, count-cons b bs, some_field bs)

face_is : (fs : List Word) → 1 ≤ length fs → face_fields fs ≡ cond (same (get_or fs 0 []) word_face) (some (drop 1 fs)) none
unfolding face_fields
face_is [] h = absurd (omega arith)
face_is (w ∷ fs) h = refl

pub face_form : (line : List ℕ) (w : Word) → w ≡ get_or (fields line) 0 [] → (t : Bool) → t ≡ same w word_face
    → face_fields (fields line) ≡ cond t (some (drop 1 (fields line))) none
face_form line w ew t et = face_is (fields line) (some_field line) ∙ ap (λ u. cond u (some (drop 1 (fields line))) none) (sym (et ∙ ap (λ v. same v word_face) ew))

eq_is : (fs : List Word) → length fs ≡ 3 → eq_fields fs ≡ cond (same (get_or fs 0 []) word_eq) (some (drop 1 fs)) none
unfolding eq_fields
eq_is [] h = absurd (omega arith)
eq_is (w ∷ []) h = absurd (omega arith)
eq_is (w ∷ f ∷ []) h = absurd (omega arith)
eq_is (w ∷ f ∷ g ∷ []) h = refl
eq_is (w ∷ f ∷ g ∷ i ∷ is) h = absurd (omega arith)

eq_not : (fs : List Word) → ¬ (length fs ≡ 3) → eq_fields fs ≡ none
unfolding eq_fields
eq_not [] h = refl
eq_not (w ∷ []) h = refl
eq_not (w ∷ f ∷ []) h = refl
eq_not (w ∷ f ∷ g ∷ []) h = absurd (h refl)
eq_not (w ∷ f ∷ g ∷ i ∷ is) h = refl

module _ (line : List ℕ) (n : ℕ) (en : n ≡ length (fields line)) (t : Bool) where
  pub eq_form : n ≡ 3 → (w : Word) → w ≡ get_or (fields line) 0 [] → t ≡ same w word_eq → eq_fields (fields line) ≡ cond t (some (drop 1 (fields line))) none
  eq_form three w ew et = eq_is (fields line) (sym en ∙ three) ∙ ap (λ u. cond u (some (drop 1 (fields line))) none) (sym (et ∙ ap (λ v. same v word_eq) ew))

  pub eq_unformed : ¬ (n ≡ 3) → t ≡ eqb n 3 → eq_fields (fields line) ≡ cond t (some (drop 1 (fields line))) none
  eq_unformed other et = rw (et ∙ ne_eqb n 3 other) (eq_not (fields line) (λ z. other (en ∙ z)))
