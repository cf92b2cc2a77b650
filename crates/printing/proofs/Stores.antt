-- One law for each way out of the functions that store bytes.
use Rattle.std.proofs.Common.{◌≡◌, refl, sym, ap, ◌∙◌, subst, List, [], ◌∷◌, ◌++◌, ℕ, zero, suc, ◌+◌, ◌/◌, ◌%◌, ◌<◌, ◌≤◌, add-one, arith, length, get_or, set, take, drop, length-append, length-take, drop_of_length-le, get_or-take, take-suc, take_all, lt-ltb, le-ltb}
use lib.Seq.{sets, length-sets, set_out}
use Rattle.parts.specs.Limits.{identifier_max}
use Rattle.texts.specs.Bytes.{decimal}
use Rattle.table.specs.Layout.{agent_row, word}
use Rattle.answers.specs.Text.{numeral}
use Rattle.printing.specs.Puts.{Puts, letters}

sets_append : (a b o : List ℕ) (n : ℕ) → sets o n (a ++ b) ≡ sets (sets o n a) (n + length a) b
sets_append [] b o n = let z : n + 0 ≡ n = omega arith in rw z
sets_append (x ∷ xs) b o n =
    let z : n + suc (length xs) ≡ suc n + length xs = omega arith in rw z (sets_append xs b (set o n x) (suc n))

-- One byte, inside and past the end.
pub put_in : (o : List ℕ) (at b r : ℕ) → r ≡ at + 1 → Puts (b ∷ []) at o r (set o at b)
put_in o at b r e = record { place = e; bytes = refl }

pub put_past : (o : List ℕ) (at b r : ℕ) → length o ≤ at → r ≡ at + 1 → Puts (b ∷ []) at o r o
put_past o at b r h e = record { place = e; bytes = sym (set_out o at b h) }

-- One run of bytes after another.
pub puts_then : {a b o o₁ o₂ : List ℕ} {at p r : ℕ} → Puts a at o p o₁ → Puts b p o₁ r o₂ → Puts (a ++ b) at o r o₂
puts_then {a} {b} {o} {o₁} {o₂} {at} {p} {r} s t =
    record {
      place = omega (arith, s.place, t.place, length-append a b);
      bytes = t.bytes ∙ (ap (λ l. sets l p b) s.bytes ∙ (ap (λ n. sets (sets o at a) n b) s.place ∙ sym (sets_append a b o at)));
    }

pub puts-long : {a o o₁ : List ℕ} {at p : ℕ} → Puts a at o p o₁ → length o₁ ≡ length o
puts-long {a} {o} {o₁} {at} {p} s = ap length s.bytes ∙ length-sets o at a

pub puts_none : (o : List ℕ) (at : ℕ) → Puts [] at o at o
puts_none o at = record { place = omega arith; bytes = refl }

pub two_puts : (x y : ℕ) (o o₁ o₂ : List ℕ) (at p r : ℕ) → Puts (x ∷ []) at o p o₁ → Puts (y ∷ []) p o₁ r o₂
    → Puts (x ∷ y ∷ []) at o r o₂
two_puts x y o o₁ o₂ at p r s t = puts_then s t

-- After i bytes of a word.
pub record Storing (word : List ℕ) (at : ℕ) (o₀ : List ℕ) (i p : ℕ) (o : List ℕ) : Type 0 where
  pub within : i ≤ length word
  pub place : p ≡ at + i
  pub long : length o ≡ length o₀
  pub puts : Puts (take i word) at o₀ p o

module _ (word : List ℕ) (at : ℕ) (o₀ : List ℕ) where
  pub storing_none : Storing word at o₀ 0 at o₀
  storing_none = record { within = omega arith; place = omega arith; long = refl; puts = puts_none o₀ at }

  module _ (i p : ℕ) (o : List ℕ) (s : Storing word at o₀ i p o) where
    pub storing_more : (q : ℕ) (o₁ : List ℕ) → i < length word → Puts (get_or word i 0 ∷ []) p o q o₁
        → Storing word at o₀ (i + 1) q o₁
    storing_more q o₁ h t =
        record {
          within = omega arith;
          place = omega (arith, s.place, t.place);
          long = puts-long t ∙ s.long;
          puts = rw (add-one i, take-suc word i 0 h) (puts_then s.puts t);
        }

    pub storing_end : length word ≤ i → Puts word at o₀ p o
    storing_end h = subst (λ l. Puts l at o₀ p o) (take_all i word h) s.puts

-- The letters of a row, as far as the first 0.
word_end : (l : List ℕ) (j : ℕ) → get_or l j 0 ≡ 0 → word (drop j l) ≡ []
unfolding word
word_end [] zero h = refl
word_end [] (suc j) h = refl
word_end (zero ∷ l) zero h = refl
word_end (suc b ∷ l) zero h = absurd (omega arith)
word_end (b ∷ l) (suc j) h = word_end l j h

word_next : (l : List ℕ) (j b : ℕ) → b ≡ get_or l j 0 → ¬ (b ≡ 0) → word (drop j l) ≡ b ∷ word (drop (suc j) l)
unfolding word
word_next [] j b e n = absurd (n e)
word_next (zero ∷ l) zero b e n = absurd (n e)
word_next (suc v ∷ l) zero b e n = ap (λ u. u ∷ word l) (sym e)
word_next (v ∷ l) (suc j) b e n = word_next l j b e n

-- After j letters of a symbol.
pub record Lettering (w : List ℕ) (s at : ℕ) (o₀ : List ℕ) (j p : ℕ) (o : List ℕ) : Type 0 where
  pub within : j ≤ identifier_max
  pub low : p ≤ at + j
  pub long : length o ≡ length o₀
  pub place : at + length (letters w s) ≡ p + length (word (drop j (take identifier_max (agent_row w s))))
  pub bytes : sets o₀ at (letters w s) ≡ sets o p (word (drop j (take identifier_max (agent_row w s))))

module _ (w : List ℕ) (s at : ℕ) (o₀ : List ℕ) where
  pub letters_begin : Lettering w s at o₀ 0 at o₀
  unfolding letters
  letters_begin = record { within = omega arith; low = omega arith; long = refl; place = refl; bytes = refl }

  module _ (j p : ℕ) (o : List ℕ) (i : Lettering w s at o₀ j p o) where
    pub letters-stop : (b : ℕ) → j < identifier_max → b ≡ get_or (agent_row w s) j 0 → b ≡ 0 → Puts (letters w s) at o₀ p o
    letters-stop b h e z =
        let k = word_end (take identifier_max (agent_row w s)) j (get_or-take identifier_max (agent_row w s) j 0 h ∙ (sym e ∙ z)) in
        record {
          place = omega (arith, i.place, ap length k);
          bytes = sym (i.bytes ∙ ap (sets o p) k);
        }

    pub letters_more : (b q : ℕ) (o₁ : List ℕ) → j < identifier_max → b ≡ get_or (agent_row w s) j 0 → ¬ (b ≡ 0) → Puts (b ∷ []) p o q o₁
        → Lettering w s at o₀ (j + 1) q o₁
    letters_more b q o₁ h e n t =
        let k = word_next (take identifier_max (agent_row w s)) j b (e ∙ sym (get_or-take identifier_max (agent_row w s) j 0 h)) n in
        let z : q ≡ suc p = t.place ∙ add-one p in
        rw (add-one j, z)
        record {
          within = omega arith;
          low = omega (arith, i.low);
          long = ap length t.bytes ∙ (length-sets o p (b ∷ []) ∙ i.long);
          place = omega (arith, i.place, ap length k);
          bytes = i.bytes ∙ (ap (sets o p) k ∙ ap (λ l. sets l (suc p) (word (drop (suc j) (take identifier_max (agent_row w s))))) (sym t.bytes));
        }

    pub letters_end : identifier_max ≤ j → Puts (letters w s) at o₀ p o
    unfolding word
    letters_end h =
        let k : drop j (take identifier_max (agent_row w s)) ≡ [] =
        drop_of_length-le (take identifier_max (agent_row w s)) {i = j} (omega (arith, length-take identifier_max (agent_row w s))) in
        record {
          place = omega (arith, i.place, ap (λ l. length (word l)) k);
          bytes = sym (i.bytes ∙ ap (λ l. sets o p (word l)) k);
        }

-- The number of a name, by how many digits it has.
module _ (k at : ℕ) (o o₁ : List ℕ) (a : ℕ) (t : Puts (95 ∷ []) at o a o₁) where
  whole : (l : List ℕ) (r : ℕ) (o₂ : List ℕ) → decimal k ≡ l → Puts l a o₁ r o₂ → Puts (numeral k) at o r o₂
  unfolding numeral
  whole l r o₂ e u = subst (λ l. Puts (95 ∷ l) at o r o₂) (sym e) (puts_then t u)

  pub one_digit : (r : ℕ) (o₂ : List ℕ) → k < 10 → Puts ((48 + k) ∷ []) a o₁ r o₂ → Puts (numeral k) at o r o₂
  unfolding decimal
  one_digit r o₂ h u = whole ((48 + k) ∷ []) r o₂ (rw (lt-ltb _ _ h)) u

  pub two_digits : (r : ℕ) (o₂ : List ℕ) → 10 ≤ k → k < 100 → Puts ((48 + k / 10) ∷ (48 + k % 10) ∷ []) a o₁ r o₂
      → Puts (numeral k) at o r o₂
  unfolding decimal
  two_digits r o₂ g h u = whole ((48 + k / 10) ∷ (48 + k % 10) ∷ []) r o₂ (rw (le-ltb _ _ g, lt-ltb _ _ h)) u

  pub three-digits : (b r : ℕ) (o₂ o₃ : List ℕ) → 10 ≤ k → 100 ≤ k → k < 1000 → Puts ((48 + k / 10 / 10) ∷ []) a o₁ b o₂
      → Puts ((48 + k / 10 % 10) ∷ (48 + k % 10) ∷ []) b o₂ r o₃ → Puts (numeral k) at o r o₃
  unfolding decimal
  three-digits b r o₂ o₃ f g h u v =
      whole ((48 + k / 10 / 10) ∷ (48 + k / 10 % 10) ∷ (48 + k % 10) ∷ []) r o₃
      (rw (le-ltb _ _ f, le-ltb _ _ g, lt-ltb _ _ h))
      (puts_then u v)

  pub four-digits : (b r : ℕ) (o₂ o₃ : List ℕ) → 10 ≤ k → 100 ≤ k → 1000 ≤ k
      → Puts ((48 + k / 10 / 10 / 10) ∷ (48 + k / 10 / 10 % 10) ∷ []) a o₁ b o₂
      → Puts ((48 + k / 10 % 10) ∷ (48 + k % 10) ∷ []) b o₂ r o₃ → Puts (numeral k) at o r o₃
  unfolding decimal
  four-digits b r o₂ o₃ f g h u v =
      whole ((48 + k / 10 / 10 / 10) ∷ (48 + k / 10 / 10 % 10) ∷ (48 + k / 10 % 10) ∷ (48 + k % 10) ∷ []) r o₃
      (rw (le-ltb _ _ f, le-ltb _ _ g, le-ltb _ _ h))
      (puts_then u v)
