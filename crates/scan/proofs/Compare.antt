-- Words: what a comparison and a test of each byte say in texts' definitions.
use Rattle.std.specs.Prelude.{ℕ, ◌≡◌, ◌<◌, refl, Bool, false, List, [], ◌∷◌, length, drop, get_or, ◌&&◌, eqb}
use Rattle.std.specs.List.{list_all}
use Rattle.std.proofs.Common.{sym, ap, ◌∙◌, arith}
use lib.Pointwise.{pointwise}
use Rattle.texts.specs.Bytes.{same, all, letter, word_byte}
use Rattle.texts.specs.Terms.{identifier, symbol}
use Rattle.scan.specs.Words.{heads}

pub same_told : (a b : List ℕ) → pointwise eqb a b ≡ same a b
unfolding same
same_told [] [] = refl
same_told [] (y ∷ ys) = refl
same_told (x ∷ xs) [] = refl
same_told (x ∷ xs) (y ∷ ys) = ap (λ t. eqb x y && t) (same_told xs ys)

pub all_told : (f : ℕ → Bool) (l : List ℕ) → list_all f l ≡ all f l
unfolding all
all_told f [] = refl
all_told f (x ∷ xs) = ap (λ t. f x && t) (all_told f xs)

-- a test of words that asks f of the first byte, and of the others that they are word bytes
pub record Asks (f : ℕ → Bool) (test : List ℕ → Bool) : Type 0 where
  pub empty : test [] ≡ false
  pub first : (b : ℕ) (bs : List ℕ) → test (b ∷ bs) ≡ (f b && all word_byte bs)

pub identifier_asks : Asks heads identifier
unfolding identifier heads
identifier_asks = record { empty = refl; first = λ b bs. refl }

pub symbol_asks : Asks letter symbol
unfolding symbol
symbol_asks = record { empty = refl; first = λ b bs. refl }

pub asks_told : {f : ℕ → Bool} {test : List ℕ → Bool} → Asks f test → (w : List ℕ) {r : Bool} → (length w ≡ 0 → r ≡ false)
    → (0 < length w → (t : Bool) × (t ≡ f (get_or w 0 0)) × (r ≡ (t && list_all word_byte (drop 1 w)))) → r ≡ test w
asks_told a [] empty first = empty refl ∙ sym a.empty
asks_told a (b ∷ bs) empty first =
    let p = first (omega arith) in p.2 ∙ rw (p.1, a.first b bs, ← all_told word_byte bs)
