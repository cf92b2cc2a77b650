-- Bytes stored one run after another, and how long a number and a first line are.
use Rattle.std.specs.Prelude.{ℕ, zero, suc, ◌+◌, ◌*◌, ◌/◌, ◌%◌, ◌<◌, ◌≤◌, ◌≡◌, refl, List, [], ◌∷◌, ◌++◌, length}
use Rattle.std.proofs.Common.{sym, ap, ◌∙◌, div-lt_iff_lt-mul, mod-eq_of_lt, arith, length-append}
use Rattle.std.proofs.Math.Nat.{div-eq_of_lt, div-lt_self}
use Rattle.std.proofs.Math.Decide.{dec_lt}
use Rattle.texts.specs.Bytes.{Word}
use Rattle.printing.specs.Puts.{Puts}
use Rattle.printing.proofs.Stores.{puts_then, puts-long}
use Rattle.report.specs.Numbers.{last, grown, spelt, digits}

-- The digits of a number do not depend on the number that bounds the calls.
tenth : (n m : ℕ) → n / 10 ≡ suc m → suc m < n
tenth zero m e = absurd (omega (arith, e))
tenth (suc n) m e = let h : suc n / 10 < suc n = div-lt_self (omega arith) (omega arith) in omega arith

same_grown : (x n : ℕ) (a b : ℕ → Word) → ((m : ℕ) → x ≡ suc m → a (suc m) ≡ b (suc m)) → grown a n x ≡ grown b n x
same_grown zero n a b h = refl
same_grown (suc m) n a b h = ap (λ l. l ++ last n) (h m refl)

spelt-enough : (f g n : ℕ) → n ≤ f → n ≤ g → spelt f n ≡ spelt g n
unfolding spelt
spelt-enough zero zero n p q = refl
spelt-enough zero (suc g) zero p q = refl
spelt-enough zero (suc g) (suc n) p q = absurd (omega arith)
spelt-enough (suc f) zero zero p q = refl
spelt-enough (suc f) zero (suc n) p q = absurd (omega arith)
spelt-enough (suc f) (suc g) n p q =
    same_grown (n / 10) n (spelt f) (spelt g)
    (λ m e. spelt-enough f g (suc m) (omega (arith, tenth n m e)) (omega (arith, tenth n m e)))

spelt_one : (f n : ℕ) → n < 10 → spelt f n ≡ last n
unfolding spelt
spelt_one zero n h = refl
spelt_one (suc f) n h = ap (grown (spelt f) n) (div-eq_of_lt h)

spelt_more : (f n m : ℕ) → n / 10 ≡ suc m → spelt (suc f) n ≡ spelt f (suc m) ++ last n
unfolding spelt
spelt_more f n m e = ap (grown (spelt f) n) e

-- A digit, and one digit more.
pub digits_one : (n : ℕ) → n < 10 → digits n ≡ (48 + n) ∷ []
unfolding digits
digits_one n h = spelt_one n n h ∙ ap (λ k. (48 + k) ∷ []) (mod-eq_of_lt h)

pub digits_more : (n : ℕ) → 10 ≤ n → digits n ≡ digits (n / 10) ++ last n
unfolding digits
digits_more zero h = absurd (omega arith)
digits_more (suc f) h = go (suc f / 10) refl
  where
    go : (x : ℕ) → suc f / 10 ≡ x → spelt (suc f) (suc f) ≡ spelt (suc f / 10) (suc f / 10) ++ last (suc f)
    go zero e = absurd (omega (arith, e))
    go (suc m) e =
        spelt_more f (suc f) m e
        ∙ ap (λ l. l ++ last (suc f))
        (spelt-enough f (suc m) (suc m) (omega (arith, tenth (suc f) m e)) (omega arith) ∙ ap (λ x. spelt x x) (sym e))

-- How long they are: a number that a word of the machine holds has at most 20 digits.
abbrev power : ℕ → ℕ
power zero = 10
power (suc k) = power k * 10

tenth_short : (k n : ℕ) → n < power (suc k) → n / 10 < power k
tenth_short k n h = (div-lt_iff_lt-mul {k = 10} {x = n} {y = power k} (omega arith)).1 h

short : (k n : ℕ) → n < power k → length (digits n) ≤ suc k
short zero n h = omega (arith, ap length (digits_one n h))
short (suc k) n h = go (dec_lt n 10) (short k (n / 10) (tenth_short k n h))
  where
    go : Dec (n < 10) → length (digits (n / 10)) ≤ suc k → length (digits n) ≤ suc (suc k)
    go (yes l) s = omega (arith, ap length (digits_one n l))
    go (no l) s = omega (arith, ap length (digits_more n (omega arith)), length-append (digits (n / 10)) (last n))

pub digits-short : (n : ℕ) → n < 18446744073709551616 → length (digits n) ≤ 20
digits-short n h = short 19 n (omega arith)

-- One law for each way out of the writer of numbers, which goes on with a tenth of the number.
pub number_one : (n at r : ℕ) (o o₁ : List ℕ) → n < 10 → Puts ((48 + n % 10) ∷ []) at o r o₁ → Puts (digits n) at o r o₁
number_one n at r o o₁ h t = rw (digits_one n h, ← mod-eq_of_lt h) t

pub number_more : (n at p r : ℕ) (o o₁ o₂ : List ℕ) → 10 ≤ n → Puts (digits (n / 10)) at o p o₁
    → Puts ((48 + n % 10) ∷ []) p o₁ r o₂ → Puts (digits n) at o r o₂
number_more n at p r o o₁ o₂ h s t = rw (digits_more n h) (puts_then s t)

pub one_fits : (n at far : ℕ) → n < 10 → at + length (digits n) ≤ far → at + 1 ≤ far
one_fits n at far h k = omega (arith, ap length (digits_one n h))

pub tenth_fits : (n at far : ℕ) → 10 ≤ n → at + length (digits n) ≤ far → at + length (digits (n / 10)) ≤ far
tenth_fits n at far h k = omega (arith, ap length (digits_more n h), length-append (digits (n / 10)) (last n))

pub tenth_falls : (n : ℕ) → 10 ≤ n → n / 10 < n
tenth_falls n h = div-lt_self (omega arith) (omega arith)

pub last_fits : (n at p far : ℕ) (o o₁ : List ℕ) → 10 ≤ n → at + length (digits n) ≤ far → Puts (digits (n / 10)) at o p o₁ → p + 1 ≤ far
last_fits n at p far o o₁ h k s =
    omega (arith, ap length (digits_more n h), length-append (digits (n / 10)) (last n), s.place)

pub numbers-long : (a b o o₁ o₂ : List ℕ) (at p r : ℕ) → Puts a at o p o₁ → Puts b p o₁ r o₂ → length o₂ ≡ length o
numbers-long a b o o₁ o₂ at p r s t = puts-long t ∙ puts-long s
