-- What the writers of first lines promise, and one law for each of them.
use Rattle.std.specs.Prelude.{ℕ, ◌+◌, ◌<◌, ◌≤◌, ◌≡◌, List, [], ◌∷◌, ◌++◌, length}
use Rattle.std.proofs.Math.Path.{subst}
use Rattle.std.proofs.Common.{append_assoc, append-nil, arith}
use Rattle.texts.specs.Bytes.{Word, text_of, line_of, tabbed}
use Rattle.printing.specs.Puts.{Puts}
use Rattle.report.specs.Numbers.{digits, number_max}
use Rattle.report.specs.Firsts.{word_ran, word_ended, ended, word_max, first_max}
use Rattle.printing.proofs.Stores.{puts_then}
use Rattle.report.specs.Stores.{digits-short}

-- The bytes bs stand at the start of the output, and r is the place after them.
pub record Begun (bs o : List ℕ) (r : ℕ) (o' : List ℕ) : Type 0 where
  pub puts : Puts bs 0 o r o'
  pub within : r ≤ first_max

-- A line of two words and two numbers.
abbrev pub line_of_four : Word → Word → ℕ → ℕ → List ℕ
line_of_four v w m n = text_of (line_of v (w ∷ digits m ∷ digits n ∷ []) ∷ [])

-- A tab and a word, and how long a number is with its tab.
pub tab-then : (w o o₁ o₂ : List ℕ) (at p r : ℕ) → Puts (9 ∷ []) at o p o₁ → Puts w p o₁ r o₂ → Puts (9 ∷ w) at o r o₂
tab-then w o o₁ o₂ at p r s t = puts_then s t

pub tab-number : (n at p far : ℕ) (o o₁ : List ℕ) → n < 18446744073709551616 → at + number_max ≤ far → Puts (9 ∷ []) at o p o₁
    → p + length (digits n) ≤ far
tab-number n at p far o o₁ b h s = omega (arith, s.place, digits-short n b)

pub tab-room : (n at p r : ℕ) (o o₁ o₂ : List ℕ) → n < 18446744073709551616 → Puts (9 ∷ []) at o p o₁ → Puts (digits n) p o₁ r o₂
    → r ≤ at + number_max
tab-room n at p r o o₁ o₂ b s t = omega (arith, s.place, t.place, digits-short n b)

-- A line of a word and three fields; and of a word and five.
module _ (v w m n : Word) where
  four : (v ++ ((9 ∷ w) ++ ((9 ∷ m) ++ ((9 ∷ n) ++ (10 ∷ []))))) ≡ text_of (line_of v (w ∷ m ∷ n ∷ []) ∷ [])
  unfolding text_of line_of tabbed
  four = simp (append_assoc, append-nil)

module _ (v w m n k l : Word) where
  six : (v ++ ((9 ∷ w) ++ ((9 ∷ m) ++ ((9 ∷ n) ++ ((9 ∷ k) ++ ((9 ∷ l) ++ (10 ∷ []))))))) ≡ text_of (line_of v (w ∷ m ∷ n ∷ k ∷ l ∷ []) ∷ [])
  unfolding text_of line_of tabbed
  six = simp (append_assoc, append-nil)

module _ (v w : Word) (m n : ℕ) (o o₁ o₂ o₃ o₄ o₅ : List ℕ) (a b c d r : ℕ) (first : length v ≤ word_max) (second : length w ≤ word_max) where
  pub line_put : Puts v 0 o a o₁ → Puts (9 ∷ w) a o₁ b o₂ → Puts (9 ∷ digits m) b o₂ c o₃ → c ≤ b + number_max
      → Puts (9 ∷ digits n) c o₃ d o₄ → d ≤ c + number_max → Puts (10 ∷ []) d o₄ r o₅ → Begun (line_of_four v w m n) o r o₅
  line_put p q s f t g u =
      record {
        puts = subst (λ l. Puts l 0 o r o₅) (four v w (digits m) (digits n)) (puts_then p (puts_then q (puts_then s (puts_then t u))));
        within = omega (arith, p.place, q.place, u.place);
      }

module _ (m n k l : ℕ) (o o₁ o₂ o₃ o₄ o₅ o₆ o₇ : List ℕ) (a b c d e f r : ℕ) where
  pub ended_put : Puts word_ran 0 o a o₁ → Puts (9 ∷ word_ended) a o₁ b o₂
      → Puts (9 ∷ digits m) b o₂ c o₃ → c ≤ b + number_max → Puts (9 ∷ digits n) c o₃ d o₄ → d ≤ c + number_max
      → Puts (9 ∷ digits k) d o₄ e o₅ → e ≤ d + number_max → Puts (9 ∷ digits l) e o₅ f o₆ → f ≤ e + number_max
      → Puts (10 ∷ []) f o₆ r o₇ → Begun (ended m n k l) o r o₇
  unfolding ended
  ended_put p q s g₁ t g₂ u g₃ v g₄ x =
      record {
        puts =
            subst
            (λ z. Puts z 0 o r o₇)
            (six word_ran word_ended (digits m) (digits n) (digits k) (digits l))
            (puts_then p (puts_then q (puts_then s (puts_then t (puts_then u (puts_then v x))))));
        within = omega (arith, p.place, q.place, x.place);
      }
