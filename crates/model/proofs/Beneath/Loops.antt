-- What a loop over the arrays does in one round, for each search and count that the step makes.
use Rattle.std.specs.Prelude.{◌≡◌, refl, List, [], ◌∷◌, ℕ, suc, ◌+◌, ◌*◌, ◌-◌, ◌≤◌, ◌<◌, min, length, get_or, take, drop, set}
use Rattle.std.proofs.Common.{sym, ◌∙◌, ap, ap₂, arith}
use Rattle.parts.specs.Sides.{◌:=◌, code, side}
use Rattle.parts.specs.Codes.{code-side}
use Rattle.model.specs.State.{used, pushed, lowest}

-- Counting the places in use, from the start.
pub used-round : (l : List ℕ) (i : ℕ) → i < length l → used (take (suc i) l) ≡ used (take i l) + min 1 (get_or l i 0)
used-round [] i h = absurd (omega arith)
used-round (v ∷ l) ℕ.zero h = omega arith
used-round (v ∷ l) (ℕ.suc i) h = omega (arith, used-round l i (omega arith))

-- The lowest n free places, looked for from place i on: none are wanted; place i is free, or not.
pub lowest_none : (i : ℕ) (l : List ℕ) → lowest i 0 l ≡ []
lowest_none i l = refl

pub lowest-free_here : (l : List ℕ) (i j n : ℕ) → i < length l → get_or l i 0 ≡ 0
    → lowest j (suc n) (drop i l) ≡ j ∷ lowest (suc j) n (drop (suc i) l)
lowest-free_here [] i j n h e = absurd (omega arith)
lowest-free_here (v ∷ l) ℕ.zero j n h e = ap (λ w. lowest j (suc n) (w ∷ l)) e
lowest-free_here (v ∷ l) (ℕ.suc i) j n h e = lowest-free_here l i j n (omega arith) e

pub lowest-used_here : (l : List ℕ) (i j n : ℕ) → i < length l → 0 < get_or l i 0
    → lowest j (suc n) (drop i l) ≡ lowest (suc j) (suc n) (drop (suc i) l)
lowest-used_here [] i j n h e = absurd (omega arith)
lowest-used_here (v ∷ l) ℕ.zero j n h e = go v e
  where
    go : (v : ℕ) → 0 < v → lowest j (suc n) (v ∷ l) ≡ lowest (suc j) (suc n) l
    go ℕ.zero o = absurd (omega arith)
    go (ℕ.suc w) o = refl
lowest-used_here (v ∷ l) (ℕ.suc i) j n h e = lowest-used_here l i j n (omega arith) e

-- A place taken and set is passed by: one search that goes on from the last place taken finds the same as searching
-- anew each time.
lowest-passes : (l : List ℕ) (i n : ℕ) (p : ℕ) (ps : List ℕ) (v : ℕ) → lowest i (suc n) l ≡ p ∷ ps → 0 < v
    → (i ≤ p) × (lowest i n (set l (p - i) v) ≡ ps)
lowest-passes [] i n p ps v e h = absurd (let z : ◌≡◌ {A = ℕ} 0 1 = ap first e in omega arith)
  where
    first : List ℕ → ℕ
    first [] = 0
    first (x ∷ l) = 1
lowest-passes (ℕ.zero ∷ l) i n p ps v e h = go (ap (head_or i) e) (ap tail_of e)
  where
    head_or : ℕ → List ℕ → ℕ
    head_or d [] = d
    head_or d (x ∷ l) = x

    tail_of : List ℕ → List ℕ
    tail_of [] = []
    tail_of (x ∷ l) = l

    at : (v : ℕ) → 0 < v → (n : ℕ) → lowest i n (v ∷ l) ≡ lowest (suc i) n l
    at ℕ.zero o n = absurd (omega arith)
    at (ℕ.suc w) o ℕ.zero = refl
    at (ℕ.suc w) o (ℕ.suc n) = refl

    go : i ≡ p → lowest (suc i) n l ≡ ps → (i ≤ p) × (lowest i n (set (0 ∷ l) (p - i) v) ≡ ps)
    go a b = (omega arith, ap (λ k. lowest i n (set (0 ∷ l) k v)) (let z : p - i ≡ 0 = omega arith in z) ∙ at v h n ∙ b)
lowest-passes (ℕ.suc w ∷ l) i n p ps v e h = go (lowest-passes l (suc i) n p ps v e h)
  where
    past : (k : ℕ) (m : List ℕ) → lowest i k (suc w ∷ m) ≡ lowest (suc i) k m
    past ℕ.zero m = refl
    past (ℕ.suc k) m = refl

    go : (suc i ≤ p) × (lowest (suc i) n (set l (p - suc i) v) ≡ ps)
        → (i ≤ p) × (lowest i n (set (suc w ∷ l) (p - i) v) ≡ ps)
    go k = (
      omega (arith, k.0),
      ap (λ j. lowest i n (set (suc w ∷ l) j v)) (let z : p - i ≡ suc (p - suc i) = omega (arith, k.0) in z) ∙ past n (set l (p - suc i) v) ∙ k.1,
    )

pub lowest-next : (l : List ℕ) (n p : ℕ) (ps : List ℕ) (v : ℕ) → lowest 0 (suc n) l ≡ p ∷ ps → 0 < v
    → lowest 0 n (set l p v) ≡ ps
lowest-next l n p ps v e h = ap (λ k. lowest 0 n (set l k v)) (let z : p ≡ p - 0 = omega arith in z) ∙ (lowest-passes l 0 n p ps v e h).1

-- The same in the words of code, which counts on by i + 1 and writes at 2 n and 2 n + 1.
pub used-next : (l : List ℕ) (i : ℕ) → i < length l → used (take (i + 1) l) ≡ used (take i l) + min 1 (get_or l i 0)
used-next l i h = ap (λ n. used (take n l)) (let e : i + 1 ≡ suc i = omega arith in e) ∙ used-round l i h

pub pushed-words : (l : List ℕ) (n a b : ℕ) → set (set l (2 * n) a) (2 * n + 1) b ≡ pushed n (side a := side b) l
pushed-words l n a b =
    ap₂ (λ v w. set (set l (2 * n) v) (2 * n + 1) w) (sym (code-side a)) (sym (code-side b))
    ∙ ap (λ i. set (set l (2 * n) (code (side a))) i (code (side b))) (let e : 2 * n + 1 ≡ 1 + 2 * n = omega arith in e)
