-- What is read from words that were written.
use Rattle.std.specs.Prelude.{◌≡◌, refl, List, [], ◌∷◌, ◌++◌, ℕ, suc, ◌+◌, ◌*◌, ◌-◌, ◌≤◌, ◌<◌, min, length, get_or, take, drop, set}
use Rattle.std.proofs.Common.{sym, ◌∙◌, ap, ap₂, subst, arith, length-append, length-drop, length-set, get_or-append-add, get_or-take, get_or-drop, get_or-set_same, get_or-set_other, length-take-le}
use Rattle.std.proofs.lemmas.List.{length-replicate}
use Rattle.std.proofs.Math.ListN.{get_or-append}
use Rattle.calculus.proofs.Beneath.Perm.{Ins, here, there}
use Rattle.parts.specs.Sides.{Pair, code, side, ◌:=◌}
use Rattle.parts.specs.Codes.{side-code}
use Rattle.model.specs.State.{equation, unpack, pushed, pushed_all, pulled, used, zeros}

-- Words and sides.
pub length-pushed : (n : ℕ) (p : Pair) (l : List ℕ) → length (pushed n p l) ≡ length l
length-pushed n (a := b) l = length-set (set l (2 * n) (code a)) (1 + 2 * n) (code b) ∙ length-set l (2 * n) (code a)

pub get_or-pushed : (n : ℕ) (p : Pair) (l : List ℕ) (i : ℕ) → ¬ (i ≡ 2 * n) → ¬ (i ≡ 1 + 2 * n)
    → get_or (pushed n p l) i 0 ≡ get_or l i 0
get_or-pushed n (a := b) l i h k =
    get_or-set_other (set l (2 * n) (code a)) (1 + 2 * n) i (code b) 0 k ∙ get_or-set_other l (2 * n) i (code a) 0 h

unpack-alike : (n : ℕ) (l m : List ℕ) → ((i : ℕ) → i < 2 * n → get_or l i 0 ≡ get_or m i 0) → unpack n l ≡ unpack n m
unpack-alike ℕ.zero l m h = refl
unpack-alike (ℕ.suc n) l m h =
    ap₂
    ◌∷◌
    (ap₂ (λ v w. side v := side w) (h (2 * n) (omega arith)) (h (1 + 2 * n) (omega arith)))
    (unpack-alike n l m (λ i k. h i (omega arith)))

pub unpack-pushed : (n : ℕ) (p : Pair) (l : List ℕ) → 2 + 2 * n ≤ length l
    → unpack (suc n) (pushed n p l) ≡ p ∷ unpack n l
unpack-pushed n (a := b) l h =
    ap₂ ◌∷◌ (ap₂ ◌:=◌ (ap side first ∙ side-code a) (ap side second ∙ side-code b)) (unpack-alike n (pushed n (a := b) l) l (λ i k. get_or-pushed n (a := b) l i (λ e. omega arith) (λ e. omega arith)))
  where
    m : List ℕ
    m = set l (2 * n) (code a)

    first : get_or (set m (1 + 2 * n) (code b)) (2 * n) 0 ≡ code a
    first = get_or-set_other m (1 + 2 * n) (2 * n) (code b) 0 (λ e. omega arith) ∙ get_or-set_same l (2 * n) (code a) 0 (omega arith)

    second : get_or (set m (1 + 2 * n) (code b)) (1 + 2 * n) 0 ≡ code b
    second = get_or-set_same m (1 + 2 * n) (code b) 0 (omega (arith, length-set l (2 * n) (code a)))

get_or_pad : (l : List ℕ) (i : ℕ) → get_or (l ++ (0 ∷ 0 ∷ [])) i 0 ≡ get_or l i 0
get_or_pad [] ℕ.zero = refl
get_or_pad [] (ℕ.suc ℕ.zero) = refl
get_or_pad [] (ℕ.suc (ℕ.suc i)) = refl
get_or_pad (x ∷ l) ℕ.zero = refl
get_or_pad (x ∷ l) (ℕ.suc i) = get_or_pad l i

pub length-pulled : (k : ℕ) (l : List ℕ) → 2 + 2 * k ≤ length l → length (pulled k l) ≡ length l
length-pulled k l h =
    omega (
      arith,
      length-append (take (2 * k) l) (drop (2 + 2 * k) l ++ (0 ∷ 0 ∷ [])),
      length-append (drop (2 + 2 * k) l) (0 ∷ 0 ∷ []),
      length-take-le (2 * k) l (omega arith),
      length-drop (2 + 2 * k) l,
    )

pub pulled-below : (k : ℕ) (l : List ℕ) (i : ℕ) → 2 * k ≤ length l → i < 2 * k → get_or (pulled k l) i 0 ≡ get_or l i 0
pulled-below k l i h j =
    get_or-append (take (2 * k) l) (drop (2 + 2 * k) l ++ (0 ∷ 0 ∷ [])) 0 i (omega (arith, length-take-le (2 * k) l h))
    ∙ get_or-take (2 * k) l i 0 j

pub pulled-above : (k : ℕ) (l : List ℕ) (i : ℕ) → 2 * k ≤ length l
    → get_or (pulled k l) (2 * k + i) 0 ≡ get_or l (2 + (2 * k + i)) 0
pulled-above k l i h =
    ap (λ n. get_or (pulled k l) (n + i) 0) (sym (length-take-le (2 * k) l h))
    ∙ get_or-append-add (take (2 * k) l) (drop (2 + 2 * k) l ++ (0 ∷ 0 ∷ [])) i 0
    ∙ get_or_pad (drop (2 + 2 * k) l) i
    ∙ get_or-drop (2 + 2 * k) l i 0
    ∙ ap (λ n. get_or l n 0) (omega arith)

pub unpack-pulled : (k m : ℕ) (l : List ℕ) → k ≤ m → 2 + 2 * m ≤ length l
    → Ins (equation k l) (unpack m (pulled k l)) (unpack (suc m) l)
unpack-pulled k m l h j = go (m - k) m (omega arith) j
  where
    go : (d m : ℕ) → m ≡ d + k → 2 + 2 * m ≤ length l → Ins (equation k l) (unpack m (pulled k l)) (unpack (suc m) l)
    go ℕ.zero m e j =
        subst
        (λ n. Ins (equation n l) (unpack m (pulled k l)) (unpack (suc m) l))
        (omega arith)
        (subst (λ r. Ins (equation m l) r (unpack (suc m) l)) (unpack-alike m l (pulled k l) (λ i n. sym (pulled-below k l i (omega arith) (omega arith)))) here)
    go (ℕ.suc d) ℕ.zero e j = absurd (omega arith)
    go (ℕ.suc d) (ℕ.suc m) e j =
        subst (λ p. Ins (equation k l) (p ∷ unpack m (pulled k l)) (unpack (suc (suc m)) l)) (ap₂ (λ v w. side v := side w) (at (2 * m) (2 * suc m) (omega arith) (omega arith)) (at (1 + 2 * m) (1 + 2 * suc m) (omega arith) (omega arith))) (there (go d m (omega arith) (omega arith)))
      where
        at : (i o : ℕ) → 2 * k ≤ i → o ≡ 2 + i → get_or l o 0 ≡ get_or (pulled k l) i 0
        at i o n e' =
            ap (λ r. get_or l r 0) (omega arith)
            ∙ sym (pulled-above k l (i - 2 * k) (omega arith))
            ∙ ap (λ r. get_or (pulled k l) r 0) (omega arith)

pub length-pushed_all : (n : ℕ) (ps : List Pair) (l : List ℕ) → length (pushed_all n ps l) ≡ length l
length-pushed_all n [] l = refl
length-pushed_all n (p ∷ ps) l = length-pushed (n + length ps) p (pushed_all n ps l) ∙ length-pushed_all n ps l

pub get_or-pushed_all : (n : ℕ) (ps : List Pair) (l : List ℕ) (i : ℕ) → 2 * (n + length ps) ≤ i
    → get_or (pushed_all n ps l) i 0 ≡ get_or l i 0
get_or-pushed_all n [] l i h = refl
get_or-pushed_all n (p ∷ ps) l i h =
    get_or-pushed (n + length ps) p (pushed_all n ps l) i (λ e. omega arith) (λ e. omega arith) ∙ get_or-pushed_all n ps l i (omega arith)

pub unpack-pushed_all : (n : ℕ) (ps : List Pair) (l : List ℕ) → 2 * (n + length ps) ≤ length l
    → unpack (n + length ps) (pushed_all n ps l) ≡ ps ++ unpack n l
unpack-pushed_all n [] l h = let e : n + 0 ≡ n = omega arith in ap (λ k. unpack k l) e
unpack-pushed_all n (p ∷ ps) l h =
    let e : n + suc (length ps) ≡ suc (n + length ps) = omega arith in
    ap (λ k. unpack k (pushed (n + length ps) p (pushed_all n ps l))) e
    ∙ unpack-pushed (n + length ps) p (pushed_all n ps l) (omega (arith, length-pushed_all n ps l))
    ∙ ap (λ m. p ∷ m) (unpack-pushed_all n ps l (omega arith))

-- How many places are in use, after one was set; and in two lists that are in use at the same places.
pub used-set : (l : List ℕ) (i v : ℕ) → i < length l → used (set l i v) + min 1 (get_or l i 0) ≡ used l + min 1 v
used-set [] i v h = absurd (omega arith)
used-set (w ∷ l) ℕ.zero v h = omega arith
used-set (w ∷ l) (ℕ.suc i) v h = omega (arith, used-set l i v (omega arith))

pub used-alike : (l m : List ℕ) → length l ≡ length m → ((i : ℕ) → min 1 (get_or l i 0) ≡ min 1 (get_or m i 0))
    → used l ≡ used m
used-alike [] [] e h = refl
used-alike [] (w ∷ m) e h = absurd (omega arith)
used-alike (v ∷ l) [] e h = absurd (omega arith)
used-alike (v ∷ l) (w ∷ m) e h = omega (arith, h 0, used-alike l m (omega arith) (λ i. h (suc i)))

pub zeros-length : (n : ℕ) → length (zeros n) ≡ n
zeros-length n = length-replicate {A = ℕ} n 0

pub zero_at : (n i : ℕ) → get_or (zeros n) i 0 ≡ 0
zero_at ℕ.zero i = refl
zero_at (ℕ.suc n) ℕ.zero = refl
zero_at (ℕ.suc n) (ℕ.suc i) = zero_at n i
