-- A place is below the length exactly where some byte passes.
use Rattle.std.specs.Prelude.{ℕ, suc, ◌≤◌, ◌≡◌, refl, Bool, true, false, cond, not, ◌&&◌, ◌||◌, List, [], ◌∷◌, length, ltb, eqb}
use Rattle.std.proofs.Common.{arith, lt-ltb}
use Rattle.std.proofs.Math.Dec.{leb-suc-suc, eqb-zero-suc, eqb-suc-suc}
use Rattle.texts.specs.Bytes.{any, all, fault2}
use Rattle.texts.specs.Bytes as Bytes
use Rattle.texts.specs.Bytes.{ended_line}
use Rattle.scan.specs.Places.{place, bad_at}

pub place_le : (f : ℕ → Bool) (l : List ℕ) → place f l ≤ length l
unfolding place
place_le f [] = omega arith
place_le f (x ∷ xs) = go (f x) (place_le f xs)
  where
    go : (t : Bool) → place f xs ≤ length xs → cond t 0 (suc (place f xs)) ≤ suc (length xs)
    go true h = omega arith
    go false h = omega arith

pub place-any : (f : ℕ → Bool) (l : List ℕ) → any f l ≡ ltb (place f l) (length l)
unfolding place any
place-any f [] = refl
place-any f (x ∷ xs) = go (f x) (place-any f xs)
  where
    go : (t : Bool) → any f xs ≡ ltb (place f xs) (length xs)
        → (t || any f xs) ≡ ltb (cond t 0 (suc (place f xs))) (suc (length xs))
    go true h = rw (lt-ltb 0 (suc (length xs)) (omega arith))
    go false h = rw (leb-suc-suc, h)

-- number 2 on a line that has ended
pub bad-fault : (l : List ℕ) → fault2 (ended_line l) ≡ ltb (bad_at l) (length l)
unfolding fault2 ended_line
bad-fault l = place-any (λ b. not (Bytes.allowed b)) l

pub place_all : (f : ℕ → Bool) (l : List ℕ) → all f l ≡ eqb (place (λ b. not (f b)) l) (length l)
unfolding place all
place_all f [] = refl
place_all f (x ∷ xs) = go (f x) (place_all f xs)
  where
    go : (t : Bool) → all f xs ≡ eqb (place (λ b. not (f b)) xs) (length xs)
        → (t && all f xs) ≡ eqb (cond (not t) 0 (suc (place (λ b. not (f b)) xs))) (suc (length xs))
    go true h = rw (eqb-suc-suc, h)
    go false h = rw eqb-zero-suc
