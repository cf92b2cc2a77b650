-- The search for a byte of some kind, from the front or from a place on.
use Rattle.std.specs.Prelude.{ℕ, suc, ◌+◌, ◌-◌, ◌≤◌, ◌<◌, ◌≡◌, refl, Bool, true, false, cond, not, List, [], ◌∷◌, length, take, drop, get_or, min, leb}
use Rattle.std.specs.List.{position_or_len}
use Rattle.std.proofs.Common.{sym, ◌∙◌, arith, leb-true, leb-false, length-drop, take_all, drop_of_length-le}
use Rattle.std.proofs.lemmas.List.Sums.{position_or_len_is}
use Rattle.scan.specs.Places.{place}

place_position : (f : ℕ → Bool) (l : List ℕ) → position_or_len f l ≡ place f l
unfolding place
place_position f [] = refl
place_position f (x ∷ xs) = go (f x) (place_position f xs)
  where
    go : (t : Bool) → position_or_len f xs ≡ place f xs
        → cond (not t) (1 + position_or_len f xs) 0 ≡ cond t 0 (suc (place f xs))
    go true h = refl
    go false h = omega (arith, h)

-- what `&l[k..]` holds
pub from_on : (k : ℕ) (l : List ℕ) → take (length l - k) (drop k l) ≡ drop k l
from_on k l = take_all (length l - k) (drop k l) (omega (arith, length-drop k l))

-- a place before which no byte passes, and at which one does where it is below the length
pub place_told : (f : ℕ → Bool) (l : List ℕ) (n : ℕ) → n ≤ length l → ((k : ℕ) → k < n → false ≡ f (get_or l k 0))
    → (n < length l → true ≡ f (get_or l n 0)) → n ≡ place f l
place_told f l n h before found =
    sym (position_or_len_is f l n 0 h (λ k g. sym (before k g)) (λ g. sym (found g))) ∙ place_position f l

-- past the end nothing is left
dropped : (l : List ℕ) (at : ℕ) {m : ℕ} → m ≡ min at (length l) → drop m l ≡ drop at l
dropped l at {m} e = go (leb at (length l)) refl
  where
    go : (t : Bool) → leb at (length l) ≡ t → drop m l ≡ drop at l
    go true k = let z : m ≡ at = omega (arith, e, leb-true at (length l) k) in rw z
    go false k =
        let z : length l < at = leb-false at (length l) k in
        let y : length l ≤ m = omega (arith, e) in
        rw (drop_of_length-le l y, drop_of_length-le l {i = at} (omega arith))

-- the search from `at` on
pub place_from : (f : ℕ → Bool) (l : List ℕ) (at : ℕ) {m : ℕ} → m ≡ min at (length l) → {n : ℕ}
    → n ≡ place f (take (length l - m) (drop m l)) → at + n ≡ at + place f (drop at l)
place_from f l at {m} e h =
    let p = rw (from_on m l) at h in let q = rw (dropped l at e) at p in omega (arith, q)
