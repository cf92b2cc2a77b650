-- New names numbered by first meeting, and sides in range.
use Prim.Native.Nat.{ℕ, suc, ◌+◌, ◌<◌}
use Rattle.std.specs.Prelude.{◌≡◌, Bool, ◌&&◌, ◌||◌}
use Rattle.std.proofs.Math.Path.{refl, sym, ap}
use Rattle.std.proofs.Common.{◌∙◌}
use Rattle.std.proofs.Math.Bool.{true, false, cond, not}
use mathlib.Core.List.Memᴰ
use mathlib.Core.List.{List, [], ◌∷◌, ◌++◌, append_assoc, append-nil, map}
use native.Mathlib.Omega.{arith}
use Rattle.std.proofs.Math.ListN.{length, length-append}
use borrow.Author.Tests.{eq-eqb, ne_eqb, lt-ltb}
use Rattle.texts.specs.Bytes.{Word, any, all, keep, same, among, different, index_of, In}
use Rattle.texts.specs.Coded.{new_from}
use Rattle.texts.specs.TableTest.{tally, numbered}
use Rattle.texts.proofs.Beneath.Tools.{any_append, same_eq}
use Rattle.texts.proofs.Beneath.Places.{same_turn, index_less, index_left, index_next, keep-keep}
use Rattle.texts.proofs.Beneath.Linear.{tally-cons}

among_end : (x w : Word) (xs : List Word) → among x (xs ++ (w ∷ [])) ≡ (among x xs || same x w)
unfolding among any
among_end x w xs = any_append (same x) xs (w ∷ []) ∙ rw (or_false (same x w))
  where
    or_false : (t : Bool) → (t || false) ≡ t
    or_false true = refl
    or_false false = refl

module _ (all_new : List Word) (old : Word → Bool) (code : Word → ℕ) where
  -- those not met before
  abbrev fresh : List Word → List Word → List Word
  fresh done ws = keep (λ x. not (among x done)) (different (keep (λ x. not (old x)) ws))

  known : (w : Word) (done : List Word) → among w done ≡ true → (x : Word) → (not (same w x) && not (among x done)) ≡ not (among x done)
  known w done h x = go (same w x) refl
    where
      go : (t : Bool) → same w x ≡ t → (not t && not (among x done)) ≡ not (among x done)
      go true e = let z : w ≡ x = same_eq w x e in rw (← z, h)
      go false e = refl

  later : (w : Word) (done : List Word) (x : Word) → (not (same w x) && not (among x done)) ≡ not (among x (done ++ (w ∷ [])))
  later w done x = rw (among_end x w done, same_turn x w) (go (same w x) (among x done))
    where
      go : (t u : Bool) → (not t && not u) ≡ not (u || t)
      go true true = refl
      go true false = refl
      go false true = refl
      go false false = refl

  pub numbered_all : (ws done : List Word) → all_new ≡ done ++ fresh done ws
      → ((w : Word) → In w ws → old w ≡ true → code w < new_from)
      → ((w : Word) → In w ws → old w ≡ false → code w ≡ new_from + index_of w all_new)
      → numbered (length all_new) (length done) (map code ws) ≡ true
  unfolding numbered keep different
  numbered_all [] done e h k = eq-eqb (length done) (length all_new) (sym (ap length (e ∙ append-nil done)))
  numbered_all (w ∷ ws) done e h k =
      go (λ fin d. numbered_all ws fin d (λ v m. h v (Memᴰ.tail m)) (λ v m. k v (Memᴰ.tail m))) (old w) refl e
    where
      go2 : ((fin : List Word) → all_new ≡ fin ++ fresh fin ws → numbered (length all_new) (length fin) (map code ws) ≡ true)
          → (u : Bool) → among w done ≡ u → old w ≡ false
          → all_new
          ≡ done
          ++ cond (not u) (w ∷ keep (λ x. not (among x done)) (keep (λ v. not (same w v)) (different (keep (λ x. not (old x)) ws))))
          (keep (λ x. not (among x done)) (keep (λ v. not (same w v)) (different (keep (λ x. not (old x)) ws))))
          → numbered (length all_new) (length done) (code w ∷ map code ws) ≡ true
      go2 ih true a o d =
          let z : index_of w all_new ≡ index_of w done = ap (index_of w) d ∙ index_left w done _ a in
          let l : index_of w done < length done = index_less w done a in
          rw (k w (Memᴰ.head refl) o, z, ne_eqb (new_from + index_of w done) (new_from + length done) (λ y. omega (arith, l, y)), lt-ltb (new_from + index_of w done) (new_from + length done) (omega (arith, l)))
          (ih done (d ∙ ap (λ l. done ++ l) (keep-keep _ _ _ (different (keep (λ x. not (old x)) ws)) (λ x m. known w done a x))))
      go2 ih false a o d =
          let z : index_of w all_new ≡ length done = ap (index_of w) d ∙ index_next w done _ a in
          let y : length (done ++ (w ∷ [])) ≡ suc (length done) = length-append done (w ∷ []) ∙ omega arith in
          rw (k w (Memᴰ.head refl) o, z, eq-eqb (new_from + length done) (new_from + length done) refl)
          (rw y at (ih (done ++ (w ∷ [])) (d ∙ (ap (λ l. done ++ (w ∷ l)) (keep-keep _ _ _ (different (keep (λ x. not (old x)) ws)) (λ x m. later w done x)) ∙ sym (append_assoc done (w ∷ []) _)))))

      go : ((fin : List Word) → all_new ≡ fin ++ fresh fin ws → numbered (length all_new) (length fin) (map code ws) ≡ true)
          → (t : Bool) → old w ≡ t → all_new ≡ done ++ keep (λ x. not (among x done)) (different (cond (not t) (w ∷ keep (λ x. not (old x)) ws) (keep (λ x. not (old x)) ws)))
          → numbered (length all_new) (length done) (code w ∷ map code ws) ≡ true
      go ih true o d =
          let l = h w (Memᴰ.head refl) o in
          rw (ne_eqb (code w) (new_from + length done) (λ y. omega (arith, l, y)), lt-ltb (code w) (new_from + length done) (omega (arith, l))) (ih done d)
      go ih false o d = go2 ih (among w done) refl o d

pub tally-zero : {A : Type 0} (f : A → Bool) (xs : List A) → tally (λ x. not (f x)) xs ≡ 0 → all f xs ≡ true
unfolding all
tally-zero f [] h = refl
tally-zero f (x ∷ xs) h = go (f x) refl (tally-zero f xs)
  where
    go : (t : Bool) → f x ≡ t → (tally (λ y. not (f y)) xs ≡ 0 → all f xs ≡ true) → (t && all f xs) ≡ true
    go true e ih = ih (sym (tally-cons (λ y. not (f y)) x xs ∙ rw e (omega arith)) ∙ h)
    go false e ih =
        let z : 1 + tally (λ y. not (f y)) xs ≡ 0 = sym (tally-cons (λ y. not (f y)) x xs ∙ rw e) ∙ h in absurd (omega (arith, z))
