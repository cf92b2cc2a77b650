-- The first loose name and the marks of the lines give the first line with a loose name.
use Prim.Native.Nat.{ℕ, suc, ◌+◌, ◌<◌}
use Rattle.std.specs.Prelude.{◌≡◌, Bool, length}
use Rattle.std.proofs.Math.Path.{refl, sym, ap, ap₂}
use Rattle.std.proofs.Common.{◌∙◌}
use Rattle.std.proofs.Math.Bool.{true, false, cond, not, ◌||◌}
use mathlib.Core.List.{List, [], ◌∷◌, ◌++◌, map, append-nil, append_assoc}
use Rattle.std.proofs.Math.Option.{Option, none, some}
use native.Mathlib.Omega.{arith}
use Rattle.std.proofs.lemmas.List.{length-map}
use Rattle.std.proofs.Math.Dec.{ltb}
use borrow.Author.Tests.{lt-ltb, le-ltb, ltb-true, ltb-false}
use Rattle.texts.specs.Bytes.{Word, any, keep, same, different}
use Rattle.texts.specs.Terms.{Term, nodes, words_of}
use Rattle.texts.specs.Books.{Agent, Equation, Net, names_of, sides, net_terms}
use Rattle.texts.specs.RuleText.{word_at}
use Rattle.texts.specs.NetText.{loose, loose_line, net_lines}
use Rattle.texts.proofs.Beneath.Tools.{any_append, same_eq}
use Rattle.texts.proofs.Beneath.NetMeans.{names-append}
use Rattle.terms.specs.Meaning.{grown}
use Rattle.terms.proofs.Main.{names-different}
use Rattle.terms.proofs.Beneath.Numbers.{grown-append, grown_on}
use Rattle.twice.specs.Counting.{first_loose, passed}
use Rattle.twice.specs.Marks.{marks_from}

-- The names of several lines.
pub names_all : List Agent → List (List Term) → List Word
names_all ags [] = []
names_all ags (ts ∷ tss) = names_of ags ts ++ names_all ags tss

-- Where a test first passes.
first_in : (Word → Bool) → List Word → ℕ
first_in f [] = 0
first_in f (w ∷ ws) = cond (f w) 0 (suc (first_in f ws))

module _ (f : Word → Bool) where
  dropped : (w : Word) → f w ≡ false → (xs : List Word) → any f (keep (λ v. not (same w v)) xs) ≡ any f xs
  unfolding any keep
  dropped w h [] = refl
  dropped w h (v ∷ xs) = go (same w v) refl (dropped w h xs)
    where
      go : (t : Bool) → same w v ≡ t → any f (keep (λ v. not (same w v)) xs) ≡ any f xs
          → any f (cond (not t) (v ∷ keep (λ v. not (same w v)) xs) (keep (λ v. not (same w v)) xs)) ≡ (f v || any f xs)
      go true e ih = ih ∙ ap (λ t. t || any f xs) (sym (ap f (sym (same_eq w v e)) ∙ h))
      go false e ih = ap (λ t. f v || t) ih

  any-different : (vs : List Word) → any f (different vs) ≡ any f vs
  unfolding any different
  any-different [] = refl
  any-different (w ∷ ws) = go (f w) refl (any-different ws)
    where
      go : (t : Bool) → f w ≡ t → any f (different ws) ≡ any f ws → (t || any f (keep (λ v. not (same w v)) (different ws))) ≡ (t || any f ws)
      go true e ih = refl
      go false e ih = dropped w e (different ws) ∙ ih

  first_any : (ds zs : List Word) → any f ds ≡ ltb (first_in f (ds ++ zs)) (length ds)
  unfolding any first_in
  first_any [] zs = sym (le-ltb (first_in f zs) 0 (omega arith))
  first_any (d ∷ ds) zs = go (f d) (first_any ds zs)
    where
      go : (t : Bool) → any f ds ≡ ltb (first_in f (ds ++ zs)) (length ds) → (t || any f ds) ≡ ltb (cond t 0 (suc (first_in f (ds ++ zs)))) (suc (length ds))
      go true ih = sym (lt-ltb 0 (suc (length ds)) (omega arith))
      go false ih = ih ∙ sucs (first_in f (ds ++ zs)) (length ds) (ltb (first_in f (ds ++ zs)) (length ds)) refl
        where
          sucs : (a b : ℕ) (t : Bool) → ltb a b ≡ t → ltb a b ≡ ltb (suc a) (suc b)
          sucs a b true e = e ∙ sym (lt-ltb (suc a) (suc b) (let z = ltb-true a b e in omega (arith, z)))
          sucs a b false e = e ∙ sym (le-ltb (suc a) (suc b) (let z = ltb-false a b e in omega (arith, z)))

  first_words : (p : ℕ → Bool) (ws : List Word) (j : ℕ) → ((k : ℕ) → k < length ws → p (j + k) ≡ f (word_at k ws)) → first_loose p j (length ws) ≡ j + first_in f ws
  unfolding first_loose first_in word_at
  first_words p [] j e = omega arith
  first_words p (w ∷ ws) j e =
      let z : j + 0 ≡ j = omega arith in
      let q : p j ≡ f w = ap p (sym z) ∙ e 0 (omega arith) in
      go (f w) q (first_words p ws (suc j) (λ k h. ap p (let y : suc j + k ≡ j + suc k = omega arith in y) ∙ e (suc k) (omega arith)))
    where
      go : (t : Bool) → p j ≡ t → first_loose p (suc j) (length ws) ≡ suc j + first_in f ws → cond (p j) j (first_loose p (suc j) (length ws)) ≡ j + cond t 0 (suc (first_in f ws))
      go true q ih = rw q (omega arith)
      go false q ih = rw q (omega (arith, ih))

-- A list of different words begins with those of its beginning.
different_on : (us vs : List Word) → (zs : List Word) × (different (us ++ vs) ≡ different us ++ zs)
different_on us vs =
    let g = grown_on (grown [] us) vs in
    (g.0, sym (names-different (us ++ vs)) ∙ grown-append [] us vs ∙ g.1 ∙ ap (λ l. l ++ g.0) (names-different us))

found : ℕ → ℕ → ℕ → Option ℕ
found k i n = cond (ltb i n) (some (k + i)) none

found-next : (k i n : ℕ) → found (suc k) i n ≡ found k (suc i) (suc n)
unfolding found
found-next k i n = go (ltb i n) refl
  where
    go : (t : Bool) → ltb i n ≡ t → cond (ltb i n) (some (suc k + i)) none ≡ cond (ltb (suc i) (suc n)) (some (k + suc i)) none
    go true e =
        let l = ltb-true i n e in
        let q = lt-ltb (suc i) (suc n) (omega (arith, l)) in
        let z : suc k + i ≡ k + suc i = omega arith in rw (e, q, z)
    go false e =
        let l = ltb-false i n e in
        let q = le-ltb (suc i) (suc n) (omega (arith, l)) in rw (e, q)

module _ (ags : List Agent) (all : List Word) where
  here : (pre : List Word) (ts : List Term) (rest : List Word) → any (loose all) pre ≡ false → all ≡ (pre ++ names_of ags ts) ++ rest
      → any (loose all) (names_of ags ts) ≡ ltb (first_in (loose all) (different all)) (length (different (pre ++ names_of ags ts)))
  here pre ts rest h e =
      let d = different_on (pre ++ names_of ags ts) rest in
      sym (any-different (loose all) (pre ++ names_of ags ts) ∙ any_append (loose all) pre (names_of ags ts) ∙ ap (λ t. t || any (loose all) (names_of ags ts)) h)
      ∙ first_any (loose all) (different (pre ++ names_of ags ts)) d.0
      ∙ ap (λ l. ltb (first_in (loose all) l) (length (different (pre ++ names_of ags ts)))) (sym (ap different e ∙ d.1))

  by_marks : (tss : List (List Term)) (k : ℕ) (pre : List Word) → any (loose all) pre ≡ false → all ≡ pre ++ names_all ags tss
      → loose_line ags all k tss ≡ found k (passed (first_in (loose all) (different all)) (marks_from ags pre tss)) (length tss)
  unfolding loose_line passed marks_from names_all found
  by_marks [] k pre h e = refl
  by_marks (ts ∷ tss) k pre h e =
      let q = e ∙ sym (append_assoc pre (names_of ags ts) (names_all ags tss)) in
      let t = here pre ts (names_all ags tss) h q in
      go (any (loose all) (names_of ags ts)) refl t (λ z. by_marks tss (suc k) (pre ++ names_of ags ts) (any_append (loose all) pre (names_of ags ts) ∙ ap₂ ◌||◌ h z) q)
    where
      x : ℕ
      x = first_in (loose all) (different all)

      go : (t : Bool) → any (loose all) (names_of ags ts) ≡ t → any (loose all) (names_of ags ts) ≡ ltb x (length (different (pre ++ names_of ags ts)))
          → (any (loose all) (names_of ags ts) ≡ false → loose_line ags all (suc k) tss ≡ found (suc k) (passed x (marks_from ags (pre ++ names_of ags ts) tss)) (length tss))
          → cond (any (loose all) (names_of ags ts)) (some k) (loose_line ags all (suc k) tss)
          ≡ found k (cond (ltb x (length (different (pre ++ names_of ags ts)))) 0 (suc (passed x (marks_from ags (pre ++ names_of ags ts) tss)))) (suc (length tss))
      go true a b ih = rw (← b, a, lt-ltb 0 (suc (length tss)) (omega arith)) (ap some (let z : k ≡ k + 0 = omega arith in z))
      go false a b ih = rw (← b, a) (ih a ∙ found-next k (passed x (marks_from ags (pre ++ names_of ags ts) tss)) (length tss))

none_named : (ags : List Agent) → names_of ags [] ≡ []
unfolding names_of keep nodes words_of
none_named ags = refl

lines-names : (ags : List Agent) (es : List Equation) → names_of ags (sides es) ≡ names_all ags (map (λ e. e.left ∷ e.right ∷ []) es)
unfolding sides names_all
lines-names ags [] = none_named ags
lines-names ags (e ∷ es) = names-append ags (e.left ∷ e.right ∷ []) (sides es) ∙ ap (λ l. names_of ags (e.left ∷ e.right ∷ []) ++ l) (lines-names ags es)

pub net-names : (ags : List Agent) (m : Net) → names_of ags (net_terms m) ≡ names_all ags (net_lines m)
unfolding net_terms net_lines names_all
net-names ags m = names-append ags m.face (sides m.equations) ∙ ap (λ l. names_of ags m.face ++ l) (lines-names ags m.equations)

-- one line more
pub marks_more : (ags : List Agent) (tss : List (List Term)) (us : List Term) (pre : List Word)
    → marks_from ags pre (tss ++ (us ∷ [])) ≡ marks_from ags pre tss ++ (length (different (pre ++ names_all ags (tss ++ (us ∷ [])))) ∷ [])
unfolding marks_from names_all
marks_more ags [] us pre = ap (λ l. length (different (pre ++ l)) ∷ []) (sym (append-nil (names_of ags us)))
marks_more ags (ts ∷ tss) us pre =
    ap (λ l. length (different (pre ++ names_of ags ts)) ∷ l)
    (marks_more ags tss us (pre ++ names_of ags ts)
    ∙ ap (λ l. marks_from ags (pre ++ names_of ags ts) tss ++ (length (different l) ∷ [])) (append_assoc pre (names_of ags ts) (names_all ags (tss ++ (us ∷ [])))))

module _ (ags : List Agent) (m : Net) (p : ℕ → Bool) where
  abbrev all : List Word
  all = names_of ags (net_terms m)

  net-length : length (net_lines m) ≡ suc (length m.equations)
  unfolding net_lines
  net-length = ap suc (length-map m.equations _)

  pub loose_line_lem : ((k : ℕ) → k < length (different all) → p k ≡ loose all (word_at k (different all)))
      → loose_line ags all 2 (net_lines m)
      ≡ cond (ltb (passed (first_loose p 0 (length (different all))) (marks_from ags [] (net_lines m))) (suc (length m.equations)))
      (some (2 + passed (first_loose p 0 (length (different all))) (marks_from ags [] (net_lines m)))) none
  unfolding any found
  loose_line_lem e =
      let x = first_in (loose all) (different all) in
      let q = first_words (loose all) p (different all) 0 (λ k h. ap p (let z : 0 + k ≡ k = omega arith in z) ∙ e k h) in
      let z : first_in (loose all) (different all) ≡ first_loose p 0 (length (different all)) = omega (arith, q) in
      by_marks ags all (net_lines m) 2 [] refl (net-names ags m)
      ∙ ap₂ (λ x n. found 2 (passed x (marks_from ags [] (net_lines m))) n) z net-length
