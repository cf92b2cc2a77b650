-- `all` over a list, or over the numbers from 0 on, asks the same of each as the model's `every` does.
use Rattle.std.specs.Prelude.{◌≡◌, refl, Bool, true, false, ◌&&◌, List, [], ◌∷◌, ℕ, zero, suc, ◌+◌, length, get_or, drop, ◌-◌, leb, eqb, not, ◌||◌}
use Rattle.std.proofs.Common.{ap, ap₂, sym, ◌∙◌, arith, le-leb}
use borrow.Author.Tests.{lt-leb}
use Rattle.std.specs.Fn.{Called}
use Rattle.std.specs.Iterator.{ChecksAll}
use Rattle.std.specs.List.{range_with_len, list_all}
use Rattle.std.specs.declared.ops.Range.{Range}
use Rattle.std.proofs.iter.Yields.{nat_range_steps}
use Rattle.std.proofs.lemmas.Bool.Decides.{nat_tests}
use Rattle.std.proofs.lemmas.Iterator.{YieldsList-from_range}
use Rattle.std.proofs.lemmas.Iterator.Search.{all_from_yields_List}
use denote.Param.Members.{Mut}
use Rattle.model.specs.Test.{every}

pub every_ext : (f g : ℕ → Bool) → ((i : ℕ) → f i ≡ g i) → (n : ℕ) → every n f ≡ every n g
unfolding every
every_ext f g h zero = refl
every_ext f g h (suc n) = ap₂ (λ a b. a && b) (h n) (every_ext f g h n)

swap : (a b c : Bool) → (a && (b && c)) ≡ (b && (a && c))
swap true b c = refl
swap false true c = refl
swap false false c = refl

-- The first number apart from the others.
every-first : (f : ℕ → Bool) (n : ℕ) → every (suc n) f ≡ (f 0 && every n (λ i. f (suc i)))
unfolding every
every-first f zero = refl
every-first f (suc n) = ap (λ b. f (suc n) && b) (every-first f n) ∙ swap (f (suc n)) (f 0) (every n (λ i. f (suc i)))

-- Each of a list, by its place.
pub all-every : {A : Type 0} (f : A → Bool) (d : A) (l : List A) → list_all f l ≡ every (length l) (λ i. f (get_or l i d))
unfolding every
all-every f d [] = refl
all-every f d (x ∷ l) = ap (λ b. f x && b) (all-every f d l) ∙ sym (every-first (λ i. f (get_or (x ∷ l) i d)) (length l))

range-from : (f : ℕ → Bool) (a n : ℕ) → list_all f (range_with_len a n) ≡ every n (λ i. f (a + i))
unfolding every
range-from f a zero = refl
range-from f a (suc n) =
    let e : a ≡ a + 0 = omega arith in
    ap₂ (λ b c. b && c) (ap f e) (range-from f (a + 1) n ∙ every_ext _ _ (λ i. ap f (omega arith)) n)
    ∙ sym (every-first (λ i. f (a + i)) n)

-- Each number below n.
pub range-every : (f : ℕ → Bool) (n : ℕ) → list_all f (range_with_len 0 n) ≡ every n f
range-every f n = range-from f 0 n ∙ every_ext _ _ (λ i. ap f (omega arith)) n

-- Those below a are passed over.
none_before : (i : ℕ) (b : Bool) → b ≡ (not (leb 0 i) || b)
none_before i b = rw (le-leb 0 i (omega arith))

leb-next : (n i : ℕ) → leb n i ≡ leb (suc n) (suc i)
leb-next n i = grind (arith, nat_tests)

not-first : (f : ℕ → Bool) (a n : ℕ) → every n (λ i. not (leb a i) || f (suc i)) ≡ every (suc n) (λ i. not (leb (suc a) i) || f i)
not-first f a n =
    every_ext _ _ (λ i. ap (λ b. not b || f (suc i)) (leb-next a i)) n
    ∙ first (suc a) (lt-leb (suc a) 0 (omega arith))
  where
    first : (b : ℕ) → leb b 0 ≡ false → every n (λ i. not (leb b (suc i)) || f (suc i)) ≡ every (suc n) (λ i. not (leb b i) || f i)
    first b e = sym (every-first (λ i. not (leb b i) || f i) n ∙ rw e)

past : (f : ℕ → Bool) (a n : ℕ) → every (n - a) (λ i. f (a + i)) ≡ every n (λ i. not (leb a i) || f i)
unfolding every
past f zero n =
    let e : n - 0 ≡ n = omega arith in
    ap (λ m. every m (λ i. f (0 + i))) e
    ∙ every_ext _ _ (λ i. let q : 0 + i ≡ i = omega arith in ap f q ∙ none_before i (f i)) n
past f (suc a) zero = let e : zero - suc a ≡ zero = omega arith in ap (λ m. every m (λ i. f (suc a + i))) e
past f (suc a) (suc n) =
    let e : suc n - suc a ≡ n - a = omega arith in
    ap (λ m. every m (λ i. f (suc a + i))) e
    ∙ every_ext _ (λ i. f (suc (a + i))) (λ i. ap f (omega arith)) (n - a)
    ∙ past (λ i. f (suc i)) a n
    ∙ not-first f a n

-- Each number from a on, below n.
range-past : (f : ℕ → Bool) (a n : ℕ) → list_all f (range_with_len a (n - a)) ≡ every n (λ i. not (leb a i) || f i)
range-past f a n = range-from f a (n - a) ∙ past f a n

module _ {F : Type 0} {g : Mut F (ℕ × Unit {0}) Bool} {s u : Range ℕ} {callee : F} {r : Bool} where
  pub all_below : (f : ℕ → Bool) (n : ℕ) → ChecksAll nat_range_steps g s callee r u → s ≡ record { start = 0; end = n }
      → ((x : ℕ) (b : Bool) (q : F) → Called g callee (x, tt) b q → (q ≡ callee) × (b ≡ f x)) → r ≡ every n f
  all_below f n ran e k = all_from_yields_List f u callee r ran (YieldsList-from_range 0 n n e (omega arith)) k ∙ range-every f n

  pub all_between : (f : ℕ → Bool) (a n : ℕ) → ChecksAll nat_range_steps g s callee r u → s ≡ record { start = a; end = n }
      → ((x : ℕ) (b : Bool) (q : F) → Called g callee (x, tt) b q → (q ≡ callee) × (b ≡ f x)) → r ≡ every n (λ i. not (leb a i) || f i)
  all_between f a n ran e k = all_from_yields_List f u callee r ran (YieldsList-from_range a n (n - a) e refl) k ∙ range-past f a n

-- The words past the first n of a list.
pub past-every : (l : List ℕ) (n : ℕ) → list_all (λ v. eqb v 0) (drop n l) ≡ every (length l) (λ i. not (leb n i) || eqb (get_or l i 0) 0)
unfolding every
past-every l zero = all-every (λ v. eqb v 0) 0 l ∙ every_ext _ _ (λ i. none_before i (eqb (get_or l i 0) 0)) (length l)
past-every [] (suc n) = refl
past-every (x ∷ l) (suc n) = past-every l n ∙ not-first (λ i. eqb (get_or (x ∷ l) i 0) 0) n (length l)
