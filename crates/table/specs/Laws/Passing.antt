-- Loops that test number by number: what they have passed, and what their answer says of a whole list.
use Rattle.std.specs.Prelude.{ℕ, ◌+◌, ◌<◌, ◌≤◌, ◌≡◌, refl, Bool, true, false, not, ◌&&◌, ◌||◌, List, [], ◌∷◌, ◌++◌}
use Rattle.std.proofs.Common.{sym, ap, ap₂, ◌∙◌, arith, below_none, below_more}
use Rattle.std.proofs.Math.Decide.{ℕ_discrete}
use Rattle.texts.specs.Bytes.{any, all}
use Rattle.texts.proofs.Beneath.Tools.{both, pair, any_append}
use Rattle.table.specs.Lists.{tab, each}
use Rattle.table.specs.Laws.Lists.{tab-snoc}

-- Every number below i has passed, of n.
pub record Passed (p : ℕ → Bool) (n i : ℕ) : Type 0 where
  pub within : i ≤ n
  pub so_far : (k : ℕ) → k < i → p k ≡ true

pub passed_none : (p : ℕ → Bool) (n : ℕ) → Passed p n 0
passed_none p n = record { within = omega arith; so_far = below_none _ }

pub passed_more : (p : ℕ → Bool) (n i : ℕ) → Passed p n i → i < n → p i ≡ true → Passed p n (i + 1)
passed_more p n i s h e = record { within = omega arith; so_far = below_more _ i s.so_far e }

pub each-true : (p : ℕ → Bool) (n : ℕ) → ((k : ℕ) → k < n → p k ≡ true) → each n p ≡ true
unfolding each
each-true p ℕ.zero h = refl
each-true p (ℕ.suc n) h = pair (each n p) (p n) (each-true p n (λ k q. h k (omega arith))) (h n (omega arith))

pub each_at : (p : ℕ → Bool) (n k : ℕ) → each n p ≡ true → k < n → p k ≡ true
unfolding each
each_at p ℕ.zero k h q = absurd (omega arith)
each_at p (ℕ.suc n) k h q = go (both (each n p) (p n) h).1 (each_at p n k (both (each n p) (p n) h).0) (ℕ_discrete k n)
  where
    go : p n ≡ true → (k < n → p k ≡ true) → Dec (k ≡ n) → p k ≡ true
    go w f (yes e) = rw e w
    go w f (no d) = f (omega (arith, d))

pub each-false : (p : ℕ → Bool) (n k : ℕ) → k < n → p k ≡ false → each n p ≡ false
each-false p n k q e = go (each n p) refl
  where
    go : (t : Bool) → each n p ≡ t → t ≡ false
    go true h = absurd (let z : ◌≡◌ {A = ℕ} 0 1 = cc (each_at p n k h q, e) in omega arith)
    go false h = refl

pub each-passed : (p : ℕ → Bool) (n i : ℕ) → Passed p n i → n ≤ i → each n p ≡ true
each-passed p n i s h = each-true p n (λ k q. s.so_far k (omega arith))

pub each_cong : (n : ℕ) (p q : ℕ → Bool) → ((k : ℕ) → p k ≡ q k) → each n p ≡ each n q
unfolding each
each_cong ℕ.zero p q e = refl
each_cong (ℕ.suc n) p q e = ap₂ ◌&&◌ (each_cong n p q e) (e n)

-- A test of all elements is a test at each number.
pub and_assoc : (a b c : Bool) → ((a && b) && c) ≡ (a && (b && c))
and_assoc true b c = refl
and_assoc false b c = refl

pub and_true : (a : Bool) → (a && true) ≡ a
and_true true = refl
and_true false = refl

all_snoc : {A : Type 0} (f : A → Bool) (xs : List A) (x : A) → all f (xs ++ (x ∷ [])) ≡ (all f xs && f x)
unfolding all
all_snoc f [] x = and_true (f x)
all_snoc f (y ∷ ys) x = ap (λ b. f y && b) (all_snoc f ys x) ∙ sym (and_assoc (f y) (all f ys) (f x))

pub all_each : {A : Type 0} (f : A → Bool) (n : ℕ) (g : ℕ → A) → all f (tab n g) ≡ each n (λ k. f (g k))
unfolding each all tab
all_each f ℕ.zero g = refl
all_each f (ℕ.suc n) g = ap (all f) (tab-snoc n g) ∙ (all_snoc f (tab n g) (g n) ∙ ap (λ b. b && f (g n)) (all_each f n g))

not_or : (a b : Bool) → not (a || b) ≡ (not a && not b)
not_or true b = refl
not_or false b = refl

pub none_each : {A : Type 0} (f : A → Bool) (n : ℕ) (g : ℕ → A) → not (any f (tab n g)) ≡ each n (λ k. not (f (g k)))
unfolding each any tab
none_each f ℕ.zero g = refl
none_each f (ℕ.suc n) g =
    ap (λ l. not (any f l)) (tab-snoc n g)
    ∙ (ap not (any_append f (tab n g) (g n ∷ []))
    ∙ (not_or (any f (tab n g)) (any f (g n ∷ []))
    ∙ ap₂ ◌&&◌ (none_each f n g) (ap not (or_none (f (g n))))))
  where
    or_none : (a : Bool) → (a || false) ≡ a
    or_none true = refl
    or_none false = refl
