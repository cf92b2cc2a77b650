-- New names in order, members of a list by their places, and sides counted.
use Rattle.std.specs.Prelude.{ℕ, zero, suc, ◌+◌, ◌-◌, ◌<◌, ◌≤◌, max, ◌≡◌, refl, Bool, true, false, cond, ◌&&◌, ◌⊎◌, List, [], ◌∷◌, length, get_or, eqb, ltb}
use Rattle.std.proofs.Common.{sym, ap, subst, inl, inr, arith, eqb-true, eq-eqb, lt-ltb, ltb-true}
use mathlib.Core.List.Memᴰ
use Rattle.std.proofs.lemmas.Bool.{eqb-false}
use Rattle.calculus.specs.Terms.{δ, count}
use Rattle.calculus.proofs.Beneath.Count.{δ_same, δ-cases}
use Rattle.parts.specs.Sides.{Side, name, cell}
use Rattle.model.specs.Sound.{first_new, InOrder}
use Rattle.texts.specs.Bytes.{all, keep, In}
use Rattle.texts.specs.Coded.{new_from}
use Rattle.texts.specs.TableTest.{tally, same_side, numbered}
use Rattle.texts.proofs.Beneath.Tools.{never, both, pair}
use Rattle.texts.specs.Linear.{one}
use Rattle.texts.proofs.Beneath.Linear.{tally-cons}

-- New names in order, and numbered as they are met.
pub in_order : (total : ℕ) (xs : List ℕ) (n : ℕ) → numbered total n xs ≡ true → InOrder n xs
unfolding numbered
in_order total [] n h = tt
in_order total (x ∷ xs) n h = go (eqb x (new_from + n)) refl h (in_order total xs)
  where
    go : (t : Bool) → eqb x (new_from + n) ≡ t → cond t (numbered total (suc n) xs) (ltb x (new_from + n) && numbered total n xs) ≡ true
        → ((m : ℕ) → numbered total m xs ≡ true → InOrder m xs) → (x ≤ first_new + n) × InOrder (max n (suc x - first_new)) xs
    go true e k ih =
        let z : x ≡ new_from + n = eqb-true x (new_from + n) e in
        let y : suc n ≡ max n (suc x - first_new) = omega (arith, z) in
        (omega (arith, z), subst (λ m. InOrder m xs) y (ih (suc n) k))
    go false e k ih =
        let p = both (ltb x (new_from + n)) (numbered total n xs) k in
        let l = ltb-true x (new_from + n) p.0 in
        let y : n ≡ max n (suc x - first_new) = omega (arith, l) in
        (omega (arith, l), subst (λ m. InOrder m xs) y (ih n p.1))

-- How many new names were met in the end.
pub final : ℕ → List ℕ → ℕ
final n [] = n
final n (x ∷ xs) = final (max n (suc x - first_new)) xs

pub numbered_of : (xs : List ℕ) (n : ℕ) → InOrder n xs → numbered (final n xs) n xs ≡ true
unfolding numbered final
numbered_of [] n h = eq-eqb n n refl
numbered_of (x ∷ xs) n (h, hs) = go (eqb x (new_from + n)) refl (numbered_of xs (max n (suc x - first_new)) hs)
  where
    go : (t : Bool) → eqb x (new_from + n) ≡ t → numbered (final (max n (suc x - first_new)) xs) (max n (suc x - first_new)) xs ≡ true
        → cond t (numbered (final (max n (suc x - first_new)) xs) (suc n) xs)
        (ltb x (new_from + n) && numbered (final (max n (suc x - first_new)) xs) n xs) ≡ true
    go true e k =
        let z : x ≡ new_from + n = eqb-true x (new_from + n) e in
        let y : max n (suc x - first_new) ≡ suc n = omega (arith, z) in
        subst (λ m. numbered (final (max n (suc x - first_new)) xs) m xs ≡ true) y k
    go false e k =
        let z : ¬ (x ≡ new_from + n) = eqb-false x (new_from + n) e in
        let l : x < new_from + n = omega (arith, z, h) in
        let y : max n (suc x - first_new) ≡ n = omega (arith, l) in
        pair (ltb x (new_from + n)) _ (lt-ltb x (new_from + n) l) (subst (λ m. numbered (final (max n (suc x - first_new)) xs) m xs ≡ true) y k)

pub final-most : (f : ℕ) (xs : List ℕ) (n : ℕ) → n ≤ f → ((x : ℕ) → 0 < count x xs → x < first_new + f) → final n xs ≤ f
unfolding final
final-most f [] n h k = h
final-most f (x ∷ xs) n h k =
    let l = k x (omega (arith, δ_same x)) in final-most f xs (max n (suc x - first_new)) (omega (arith, h, l)) (λ y m. k y (omega (arith, m)))

pub final-least : (xs : List ℕ) (n : ℕ) → (n ≤ final n xs) × ((x : ℕ) → 0 < count x xs → suc x - first_new ≤ final n xs)
unfolding final
final-least [] n = (omega arith, λ x k. absurd (omega (arith, k)))
final-least (y ∷ xs) n = go (final-least xs (max n (suc y - first_new)))
  where
    go : (max n (suc y - first_new) ≤ final (max n (suc y - first_new)) xs)
        × ((x : ℕ) → 0 < count x xs → suc x - first_new ≤ final (max n (suc y - first_new)) xs)
        → (n ≤ final (max n (suc y - first_new)) xs) × ((x : ℕ) → 0 < count x (y ∷ xs) → suc x - first_new ≤ final (max n (suc y - first_new)) xs)
    go p = let a = p.0 in (omega (arith, a), λ x k. at x k (δ-cases x y))
      where
        at : (x : ℕ) → 0 < count x (y ∷ xs) → ((x ≡ y) × (δ x y ≡ 1)) ⊎ ((¬ (x ≡ y)) × (δ x y ≡ 0)) → suc x - first_new ≤ final (max n (suc y - first_new)) xs
        at x k (inl e) = let a = p.0 in let z = e.0 in omega (arith, a, z)
        at x k (inr e) = let d = e.1 in p.1 x (omega (arith, k, d))

-- Members of a list by their places.
pub all_at : {A : Type 0} (f : A → Bool) (d : A) (xs : List A) → all f xs ≡ true → (j : ℕ) → j < length xs → f (get_or xs j d) ≡ true
unfolding all
all_at f d [] h j l = absurd (omega (arith, l))
all_at f d (x ∷ xs) h zero l = (both (f x) (all f xs) h).0
all_at f d (x ∷ xs) h (suc j) l = all_at f d xs (both (f x) (all f xs) h).1 j (omega (arith, l))

pub at_all : {A : Type 0} (f : A → Bool) (d : A) (xs : List A) → ((j : ℕ) → j < length xs → f (get_or xs j d) ≡ true) → all f xs ≡ true
unfolding all
at_all f d [] h = refl
at_all f d (x ∷ xs) h = pair (f x) (all f xs) (h 0 (omega arith)) (at_all f d xs (λ j l. h (suc j) (omega (arith, l))))

-- A side that stands in a list, and one that is counted there.
pub side_refl : (s : Side) → same_side s s ≡ true
unfolding same_side
side_refl (name x) = eq-eqb x x refl
side_refl (cell c) = eq-eqb c c refl

pub side-eq : (x : ℕ) (s : Side) → same_side (name x) s ≡ true → s ≡ name x
unfolding same_side
side-eq x (name y) h = ap name (sym (eqb-true x y h))
side-eq x (cell c) h = never h

pub counted_in : (s : Side) (xs : List Side) → In s xs → 0 < tally (same_side s) xs
counted_in s [] m = absurd (Memᴰ.not-nil m)
counted_in s (y ∷ ys) m = go (Memᴰ.cases_cons m) (counted_in s ys)
  where
    go : (s ≡ y) ⊎ In s ys → (In s ys → 0 < tally (same_side s) ys) → 0 < tally (same_side s) (y ∷ ys)
    go (inl e) ih = let z = tally-cons (same_side s) y ys in let o : one (same_side s y) ≡ 1 = rw (← e, side_refl s) in omega (arith, z, o)
    go (inr k) ih = let z = tally-cons (same_side s) y ys in let i = ih k in omega (arith, z, i)

pub in_counted : (x : ℕ) (xs : List Side) → 0 < tally (same_side (name x)) xs → In (name x) xs
unfolding tally keep
in_counted x [] h = absurd (omega (arith, h))
in_counted x (y ∷ ys) h = go (same_side (name x) y) refl h (in_counted x ys)
  where
    go : (t : Bool) → same_side (name x) y ≡ t → 0 < length (cond t (y ∷ keep (same_side (name x)) ys) (keep (same_side (name x)) ys))
        → (0 < length (keep (same_side (name x)) ys) → In (name x) ys) → In (name x) (y ∷ ys)
    go true e k ih = Memᴰ.head (sym (side-eq x y e))
    go false e k ih = Memᴰ.tail (ih k)
