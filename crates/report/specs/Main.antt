-- Numbers that a text may have are written here as there.
use Rattle.std.specs.Prelude.{ℕ, ◌+◌, ◌/◌, ◌%◌, ◌<◌, ◌≤◌, ◌≡◌, List, [], ◌∷◌, ◌++◌}
use Rattle.std.proofs.Common.{sym, ap, ◌∙◌, arith}
use Rattle.std.proofs.Math.Decide.{dec_lt}
use borrow.Author.Tests.{lt-ltb, le-ltb}
use Rattle.texts.specs.Bytes.{decimal}
use Rattle.report.specs.Numbers.{last, digits}
use Rattle.report.specs.Stores.{digits_one, digits_more}

module _ (n : ℕ) where
  decimal_one : n < 10 → decimal n ≡ (48 + n) ∷ []
  unfolding decimal
  decimal_one h = rw (lt-ltb _ _ h)

  decimal_two : 10 ≤ n → n < 100 → decimal n ≡ (48 + n / 10) ∷ (48 + n % 10) ∷ []
  unfolding decimal
  decimal_two g h = rw (le-ltb _ _ g, lt-ltb _ _ h)

  decimal-three : 10 ≤ n → 100 ≤ n → n < 1000 → decimal n ≡ (48 + n / 10 / 10) ∷ (48 + n / 10 % 10) ∷ (48 + n % 10) ∷ []
  unfolding decimal
  decimal-three f g h = rw (le-ltb _ _ f, le-ltb _ _ g, lt-ltb _ _ h)

  decimal-four : 10 ≤ n → 100 ≤ n → 1000 ≤ n
      → decimal n ≡ (48 + n / 10 / 10 / 10) ∷ (48 + n / 10 / 10 % 10) ∷ (48 + n / 10 % 10) ∷ (48 + n % 10) ∷ []
  unfolding decimal
  decimal-four f g h = rw (le-ltb _ _ f, le-ltb _ _ g, le-ltb _ _ h)

-- One digit more than a tenth of the number.
more : {n : ℕ} {l : List ℕ} → 10 ≤ n → digits (n / 10) ≡ l → digits n ≡ l ++ last n
more {n} h e = digits_more n h ∙ ap (λ l. l ++ last n) e

pub digits_decimal : (n : ℕ) → n < 10000 → digits n ≡ decimal n
digits_decimal n h = go (dec_lt n 10) (dec_lt n 100) (dec_lt n 1000)
  where
    go : Dec (n < 10) → Dec (n < 100) → Dec (n < 1000) → digits n ≡ decimal n
    go (yes a) b c = digits_one n a ∙ sym (decimal_one n a)
    go (no a) (yes b) c =
        more (omega arith) (digits_one (n / 10) (omega arith)) ∙ sym (decimal_two n (omega arith) b)
    go (no a) (no b) (yes c) =
        more (omega arith) (more (omega arith) (digits_one (n / 10 / 10) (omega arith)))
        ∙ sym (decimal-three n (omega arith) (omega arith) c)
    go (no a) (no b) (no c) =
        more (omega arith) (more (omega arith) (more (omega arith) (digits_one (n / 10 / 10 / 10) (omega arith))))
        ∙ sym (decimal-four n (omega arith) (omega arith) (omega arith))
