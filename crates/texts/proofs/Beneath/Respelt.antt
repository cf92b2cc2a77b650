-- Spellings for the names of a right side that clash with no symbol.
use Rattle.std.specs.Prelude.{ℕ, zero, suc, ◌+◌, ◌*◌, ◌-◌, ◌<◌, ◌≡◌, refl, Bool, true, false, cond, ◌&&◌, List, [], ◌∷◌, length, eqb, ltb}
use Rattle.std.proofs.Common.{sym, ap, ◌∙◌, arith, eqb-true, eq-eqb}
use Rattle.parts.specs.Limits.{arity_max, rule_names_max}
use Rattle.texts.specs.Bytes.{Word, any, all, same, letter, digit, word_byte}
use Rattle.texts.specs.Terms.{identifier, symbol}
use Rattle.texts.specs.Books.{Agent, declared}
use Rattle.texts.proofs.Beneath.Tools.{never, both, none_of, same_refl, same_eq}

-- The numbers that a right side can use: two agents' arguments and the new names.
abbrev pub most : ℕ
most = 2 * arity_max + rule_names_max

unfoldable pub byte_for : ℕ → ℕ
byte_for i = cond (ltb i 16) (97 + i) (49 + i)

unfoldable pub unbyte : ℕ → ℕ
unbyte b = cond (ltb b 96) (b - 49) (b - 97)

-- For all numbers below n.
unfoldable below : ℕ → (ℕ → Bool) → Bool
below zero f = true
below (suc n) f = below n f && f n

of_below : (n : ℕ) (f : ℕ → Bool) → below n f ≡ true → (i : ℕ) → i < n → f i ≡ true
unfolding below
of_below zero f h i l = absurd (omega (arith, l))
of_below (suc n) f h i l =
    let p = both (below n f) (f n) h in go (eqb i n) refl (of_below n f p.0 i) p.1
  where
    go : (t : Bool) → eqb i n ≡ t → (i < n → f i ≡ true) → f n ≡ true → f i ≡ true
    go true e ih k = let z : i ≡ n = eqb-true i n e in rw z k
    go false e ih k = ih (let z : i ≡ n → ⊥ = (λ y. never (sym e ∙ eq-eqb i n y)) in less z)
      where
        less : (i ≡ n → ⊥) → i < n
        less z = omega (arith, l, z)

byte_word : (i : ℕ) → i < most → word_byte (byte_for i) ≡ true
unfolding below byte_for word_byte letter digit
byte_word i h = of_below most (λ j. word_byte (byte_for j)) refl i h

byte_back : (i : ℕ) → i < most → unbyte (byte_for i) ≡ i
unfolding below byte_for unbyte
byte_back i h = eqb-true (unbyte (byte_for i)) i (of_below most (λ j. eqb (unbyte (byte_for j)) j) refl i h)

-- An underscore, and a letter for the number.
unfoldable pub word : ℕ → Word
word i = 95 ∷ byte_for i ∷ []

unfoldable pub number_in : Word → ℕ
number_in [] = 0
number_in (a ∷ []) = 0
number_in (a ∷ b ∷ w) = unbyte b

pub word_back : (i : ℕ) → i < most → number_in (word i) ≡ i
unfolding word number_in
word_back i h = byte_back i h

pub word-plain : (i : ℕ) → i < most → (identifier (word i) ≡ true) × (length (word i) ≡ 2)
unfolding word identifier all word_byte letter digit
word-plain i h = (rw (byte_word i h), refl)

-- The words are as different as the numbers.
pub word_same : (i j : ℕ) → i < most → j < most → same (word i) (word j) ≡ eqb i j
word_same i j h l = go (same (word i) (word j)) (eqb i j) refl refl
  where
    go : (t u : Bool) → same (word i) (word j) ≡ t → eqb i j ≡ u → t ≡ u
    go true true e f = refl
    go false false e f = refl
    go true false e f =
        let z : i ≡ j = sym (word_back i h) ∙ (ap number_in (same_eq (word i) (word j) e) ∙ word_back j l) in sym (never (sym f ∙ eq-eqb i j z))
    go false true e f = let z : i ≡ j = eqb-true i j f in never (sym e ∙ rw z (same_refl (word j)))

-- No symbol begins with an underscore.
underscore : (w v : Word) → symbol v ≡ true → same (95 ∷ w) v ≡ false
unfolding symbol same letter
underscore w [] h = refl
underscore w (b ∷ v) h = go (eqb 95 b) refl
  where
    go : (t : Bool) → eqb 95 b ≡ t → (t && same w v) ≡ false
    go true e = let z : 95 ≡ b = eqb-true 95 b e in never (rw (← z) at h)
    go false e = refl

undeclared : (ags : List Agent) (w : Word) → all (λ a. symbol a.symbol) ags ≡ true → declared ags (95 ∷ w) ≡ false
unfolding declared any all
undeclared [] w h = refl
undeclared (a ∷ ags) w h =
    let p = both (symbol a.symbol) (all (λ b. symbol b.symbol) ags) h in
    none_of (same (95 ∷ w) a.symbol) (any (λ b. same (95 ∷ w) b.symbol) ags) (underscore w a.symbol p.0) (undeclared ags w p.1)

pub word_undeclared : (ags : List Agent) (i : ℕ) → all (λ a. symbol a.symbol) ags ≡ true → declared ags (word i) ≡ false
unfolding word
word_undeclared ags i h = undeclared ags _ h
