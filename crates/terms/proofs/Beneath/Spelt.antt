-- What stands in a text from a place on: words, and the bytes after them. Assumes nothing.
use Rattle.std.specs.Prelude.{ℕ, ◌+◌, ◌-◌, ◌<◌, ◌≡◌, refl, true, false, not, List, [], ◌∷◌, ◌++◌, length, get_or, take, drop}
use Rattle.std.proofs.Common.{sym, ap, ◌∙◌, arith, length-append, length-drop, drop-drop, get_or-drop}
use Rattle.std.proofs.Math.ListN.{get_or-eq_default}
use Rattle.std.proofs.Math.Seq.{drop-append_seam, take-append_seam}
use Rattle.texts.specs.Bytes.{Word, all, letter, digit, word_byte}
use Rattle.texts.specs.Terms.{identifier}
use Rattle.texts.proofs.Beneath.Spelling.{identifier-bytes}
use Rattle.texts.proofs.Beneath.Tools.{never, both}
use Rattle.scan.specs.Places.{place}
use Rattle.scan.specs.Words.{word_end}
use Rattle.terms.specs.Meaning.{Stops}

-- what stands from a place on
module _ (text : List ℕ) (at : ℕ) where
  pub skip : (a b : List ℕ) → drop at text ≡ a ++ b → drop (at + length a) text ≡ b
  skip a b e = sym (drop-drop (length a) at text) ∙ rw e (drop-append_seam a b)

  pub skip_one : (x : ℕ) (b : List ℕ) → drop at text ≡ x ∷ b → drop (at + 1) text ≡ b
  skip_one x b e = skip (x ∷ []) b e

  pub here : (x : ℕ) (b : List ℕ) → drop at text ≡ x ∷ b → get_or text at 0 ≡ x
  here x b e = let z : at ≡ at + 0 = omega arith in rw (z, ← get_or-drop at text 0 0, e)

  pub past : drop at text ≡ [] → get_or text at 0 ≡ 0
  past e = get_or-eq_default text 0 (omega (arith, length-drop at text, ap length e))

  pub inside : (x : ℕ) (b : List ℕ) → drop at text ≡ x ∷ b → at < length text
  inside x b e = omega (arith, length-drop at text, ap length e)

-- what can stand after a word: nothing, or no word byte
unfoldable pub Ends : List ℕ → Type 0
Ends [] = Unit {0}
Ends (b ∷ bs) = word_byte b ≡ false

pub stops-ends : (rest : List ℕ) → Stops rest → Ends rest
unfolding Stops Ends
stops-ends [] h = tt
stops-ends (b ∷ bs) h = h.0

stops_open : (b : ℕ) (bs : List ℕ) → Stops (b ∷ bs) → b ≡ 40 → ⊥
unfolding Stops
stops_open b bs h = h.1

pub comma_stops : (b : List ℕ) → Stops (44 ∷ b)
unfolding Stops word_byte letter digit
comma_stops b = (refl, λ e. omega arith)

pub close-stops : (b : List ℕ) → Stops (41 ∷ b)
unfolding Stops word_byte letter digit
close-stops b = (refl, λ e. omega arith)

pub open_ends : (b : List ℕ) → Ends (40 ∷ b)
unfolding Ends word_byte letter digit
open_ends b = refl

word-span : (w rest : List ℕ) → all word_byte w ≡ true → Ends rest → place (λ b. not (word_byte b)) (w ++ rest) ≡ length w
unfolding place all Ends
word-span [] [] ok e = refl
word-span [] (x ∷ xs) ok e = rw e
word-span (x ∷ xs) rest ok e =
    let p = both (word_byte x) (all word_byte xs) ok in rw (p.0, word-span xs rest p.1 e)

-- an identifier is not empty
pub identifier_some : (w : Word) → identifier w ≡ true → 0 < length w
unfolding identifier
identifier_some [] h = never h
identifier_some (b ∷ bs) h = omega arith

module _ (text : List ℕ) (at : ℕ) (w rest : List ℕ) (ok : identifier w ≡ true) (e : drop at text ≡ w ++ rest) where
  pub word-ends : Ends rest → at + length w ≡ word_end text at
  word-ends h = rw (e, word-span w rest (identifier-bytes w ok) h)

  pub word_here : take (at + length w - at) (drop at text) ≡ w
  word_here = let z : at + length w - at ≡ length w = omega arith in rw (z, e) (take-append_seam w rest)

  pub word-inside : at < length text
  word-inside = omega (arith, length-drop at text, simp length-append at (ap length e), identifier_some w ok)

  -- no bracket stands after the word
  pub word-stops : Stops rest → get_or text (at + length w) 0 ≡ 40 → ⊥
  word-stops st h = go rest st (skip text at w rest e)
    where
      go : (r : List ℕ) → Stops r → drop (at + length w) text ≡ r → ⊥
      go [] q d = omega (arith, past text (at + length w) d)
      go (x ∷ xs) q d = stops_open x xs q (sym (here text (at + length w) x xs d) ∙ h)
