-- The first word from a place on, where there is one.
use Rattle.std.specs.Prelude.{ℕ, ◌-◌, ◌<◌, ◌≤◌, ◌≡◌, refl, Bool, true, false, List, [], ◌∷◌, length, take, drop, ltb}
use Rattle.std.proofs.Common.{sym, ap, ◌∙◌, arith, ltb-true, ltb-false}
use Rattle.texts.specs.Bytes.{Word}
use Rattle.scan.specs.Words.{word_start, word_end, words_in}
use Rattle.scan.specs.Laws.Wording.{NextWord, next_word, no_word}

module _ (l : List ℕ) (at : ℕ) (w : Word) (ws : List Word) (h : at ≤ length l) (q : words_in (drop at l) ≡ w ∷ ws) where
  pub starts : word_start l at < length l
  starts = go (ltb (word_start l at) (length l)) refl
    where
      go : (t : Bool) → ltb (word_start l at) (length l) ≡ t → word_start l at < length l
      go true p = ltb-true (word_start l at) (length l) p
      go false p =
          let z : words_in (drop at l) ≡ [] = no_word l at h (ltb-false (word_start l at) (length l) p) in
          absurd (omega (arith, ap length (sym q ∙ z)))

  pub next : NextWord l at (word_start l at) (word_end l (word_start l at))
  next = next_word l at starts

  pub next_is : (take (word_end l (word_start l at) - word_start l at) (drop (word_start l at) l) ≡ w) × (words_in (drop (word_end l (word_start l at)) l) ≡ ws)
  next_is = (first (sym next.words ∙ q), later (sym next.words ∙ q))
    where
      first : {x y : Word} {xs ys : List Word} → x ∷ xs ≡ y ∷ ys → x ≡ y
      first {x} p = ap (λ (k : List Word). elim k [ [] ↦ x | z ∷ zs ↦ z ]) p

      later : {x y : Word} {xs ys : List Word} → x ∷ xs ≡ y ∷ ys → xs ≡ ys
      later {x} {y} {xs} p = ap (λ (k : List Word). elim k [ [] ↦ xs | z ∷ zs ↦ zs ]) p
