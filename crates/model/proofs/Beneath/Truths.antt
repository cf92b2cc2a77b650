-- What a true answer of each kind of test says, and what makes the answer true.
use Rattle.std.specs.Prelude.{◌≡◌, refl, ◌||◌, Bool, true, false, not, ◌&&◌, List, ℕ, ◌≤◌, ◌<◌, leb, eqb, length, get_or}
use Rattle.std.proofs.Common.{sym, ◌∙◌, ap, subst, arith, leb→le, le→leb, eqb→eq}
use Rattle.std.proofs.lemmas.Bool.{false≢true}
use Rattle.std.proofs.Math.Decide.{dec_lt}
use Rattle.std.proofs.Math.Dec.{eqb_refl}
use Rattle.std.proofs.Math.Dec as D
use Rattle.std.proofs.Math.ListN.{get_or-eq_default}
use Rattle.model.specs.Test.{every}

held-true : (b : Bool) → D.T b → b ≡ true
held-true true h = refl
held-true false h = absurd h

true-held : {b : Bool} → b ≡ true → D.T b
true-held e = subst D.T (sym e) tt

pub eq_of : {m n : ℕ} → eqb m n ≡ true → m ≡ n
eq_of {m} {n} e = eqb→eq m n (true-held e)

pub of_eq : (m n : ℕ) → m ≡ n → eqb m n ≡ true
of_eq m n e = held-true (eqb m n) (subst (λ k. D.T (eqb m k)) e (eqb_refl m))

pub le_of : {m n : ℕ} → leb m n ≡ true → m ≤ n
le_of {m} {n} e = leb→le m n (true-held e)

pub of_le : (m n : ℕ) → m ≤ n → leb m n ≡ true
of_le m n h = held-true (leb m n) (le→leb m n h)

pub parts : (a b : Bool) → (a && b) ≡ true → (a ≡ true) × (b ≡ true)
parts true b e = (refl, e)
parts false b e = absurd (false≢true e)

pub whole : {a b : Bool} → a ≡ true → b ≡ true → (a && b) ≡ true
whole {b = b} p q = subst (λ a. (a && b) ≡ true) (sym p) q

pub implied : (a b : Bool) → (not a || b) ≡ true → a ≡ true → b ≡ true
implied true b e h = e
implied false b e h = absurd (false≢true h)

pub implies : (a b : Bool) → (a ≡ true → b ≡ true) → (not a || b) ≡ true
implies true b f = f refl
implies false b f = refl

pub not_true : (a : Bool) → not a ≡ true → a ≡ true → ⊥
not_true true e h = false≢true e
not_true false e h = false≢true h

pub of_not : (a : Bool) → (a ≡ true → ⊥) → not a ≡ true
of_not true f = absurd (f refl)
of_not false f = refl

pub every_at : (n : ℕ) (f : ℕ → Bool) → every n f ≡ true → (i : ℕ) → i < n → f i ≡ true
unfolding every
every_at ℕ.zero f e i h = absurd (omega arith)
every_at (ℕ.suc n) f e i h = go (dec_lt i n) (λ k. every_at n f (parts (f n) (every n f) e).1 i k)
  where
    go : Dec (i < n) → (i < n → f i ≡ true) → f i ≡ true
    go (yes k) g = g k
    go (no k) g = ap f (let q : i ≡ n = omega arith in q) ∙ (parts (f n) (every n f) e).0

pub every_all : (n : ℕ) (f : ℕ → Bool) → ((i : ℕ) → i < n → f i ≡ true) → every n f ≡ true
unfolding every
every_all ℕ.zero f h = refl
every_all (ℕ.suc n) f h = whole (h n (omega arith)) (every_all n f (λ i k. h i (omega arith)))

-- Past the end of a list all is zero.
pub zeros-past : (n : ℕ) (l : List ℕ) (m : ℕ) → length l ≡ n → every n (λ i. not (leb m i) || eqb (get_or l i 0) 0) ≡ true
    → (i : ℕ) → m ≤ i → get_or l i 0 ≡ 0
zeros-past n l m e t i h = go (dec_lt i n)
  where
    go : Dec (i < n) → get_or l i 0 ≡ 0
    go (yes k) = eq_of (implied (leb m i) (eqb (get_or l i 0) 0) (every_at n (λ i. not (leb m i) || eqb (get_or l i 0) 0) t i k) (of_le m i h))
    go (no k) = get_or-eq_default l 0 {n = i} (omega (arith, e))

pub past-zeros : (n : ℕ) (l : List ℕ) (m : ℕ) → ((i : ℕ) → m ≤ i → get_or l i 0 ≡ 0)
    → every n (λ i. not (leb m i) || eqb (get_or l i 0) 0) ≡ true
past-zeros n l m h =
    every_all n (λ i. not (leb m i) || eqb (get_or l i 0) 0) (λ i k. implies (leb m i) (eqb (get_or l i 0) 0) (λ o. of_eq (get_or l i 0) 0 (h i (le_of o))))
