-- What the loops over the words of a part keep, and their steps.
use Prim.Native.Nat.{ℕ, ◌+◌, ◌-◌, ◌≤◌, ◌<◌}
use mathlib.Core.Path.{◌≡◌, refl, sym, ap, ap₂, subst, ◌∙◌}
use mathlib.Core.Bool.{Bool, true, false, cond, not, ◌&&◌}
use mathlib.Core.List.{List, [], ◌∷◌}
use native.Mathlib.Omega.{arith}
use lib.Dec.{ltb}
use lib.ListN.{length, take, drop, length-drop, drop_of_length-le}
use lib.Seq.{take_all}
use borrow.Author.Tests.{ltb-true, ltb-false}
use Rattle.std.specs.Int.{from_bool}
use Rattle.texts.specs.Bytes.{Word, keep, among, different}
use Rattle.scan.specs.Words.{word_start, word_end, words_in}
use Rattle.scan.specs.Laws.Wording.{NextWord, next_word, no_word}
use Rattle.rule_tests.specs.Words.{last_ones}
use Rattle.rule_tests.specs.Laws.Nexts.{next, next_is}
use Rattle.rule_tests.specs.Laws.Lasts.{lasts_different}

no_words : words_in [] ≡ []
no_words = no_word [] 0 (omega arith) (omega arith)

-- the next word of a part
module _ (l : List ℕ) (at s e : ℕ) (es : s ≡ word_start l at) (more : s < length l) (ee : e ≡ word_end l s) where
  pub the_next : NextWord l at s e
  the_next = rw (← es, ← ee) at (next_word l at (rw es at more))

  pub word-order : s ≤ e
  word-order = the_next.ends

  pub word-within : e ≤ length l
  word-within = the_next.within

  pub word_on : at < e
  word_on = go (ltb at e) refl
    where
      go : (t : Bool) → ltb at e ≡ t → at < e
      go true q = ltb-true at e q
      go false q =
          let z : e ≡ at = omega (arith, ltb-false at e q, the_next.begins, the_next.ends) in
          absurd (omega (arith, ap length the_next.words, ap (λ n. length (words_in (drop n l))) z))

  pub word_less : length l - e < length l - at
  word_less = omega (arith, word_on, word-within)

-- The first word from a place on, where there is one.
module _ (l : List ℕ) (at s : ℕ) (es : s ≡ word_start l at) (e : ℕ) (ee : e ≡ word_end l s) where
  pub after_start : s ≤ e
  after_start = omega (arith, ee)

  end_is : e ≡ word_end l (word_start l at)
  end_is = ee ∙ ap (word_end l) es

  pub word_is : (v : Word) → v ≡ take (e - s) (drop s l) → (w : Word) (ws : List Word) → at ≤ length l → words_in (drop at l) ≡ w ∷ ws → v ≡ w
  word_is v ev w ws h q = ev ∙ (ap₂ (λ x y. take (y - x) (drop x l)) es end_is ∙ (next_is l at w ws h q).0)

  pub after_is : (w : Word) (ws : List Word) → at ≤ length l → words_in (drop at l) ≡ w ∷ ws → (e ≤ length l) × (words_in (drop e l) ≡ ws)
  after_is w ws h q =
      (subst (λ n. n ≤ length l) (sym end_is) (next l at w ws h q).within, ap (λ n. words_in (drop n l)) end_is ∙ (next_is l at w ws h q).1)

-- n words before the place stand last there
pub record Counted (f : Word → Bool) (l : List ℕ) (at n : ℕ) : Type 0 where
  pub within : at ≤ length l
  pub few : n ≤ at
  pub rest : last_ones f (words_in l) ≡ n + last_ones f (words_in (drop at l))

pub counted_none : (f : Word → Bool) (l : List ℕ) → Counted f l 0 0
counted_none f l = record { within = omega arith; few = omega arith; rest = omega arith }

module _ (f : Word → Bool) (l : List ℕ) (at n : ℕ) (c : Counted f l at n) where
  pub counted_end : length l ≤ at → n ≡ length (different (keep f (words_in l)))
  unfolding last_ones
  counted_end h =
      let z : words_in (drop at l) ≡ [] = ap words_in (drop_of_length-le l h) ∙ no_words in
      let y : last_ones f (words_in (drop at l)) ≡ 0 = rw z in
      let x : n ≡ last_ones f (words_in l) = omega (arith, c.rest) in x ∙ lasts_different f (words_in l)

  pub counted_last : (s : ℕ) → s ≡ word_start l at → length l ≤ s → n ≡ length (different (keep f (words_in l)))
  unfolding last_ones
  counted_last s e h =
      let z : words_in (drop at l) ≡ [] = no_word l at c.within (rw e at h) in
      let y : last_ones f (words_in (drop at l)) ≡ 0 = rw z in
      let x : n ≡ last_ones f (words_in l) = omega (arith, c.rest) in x ∙ lasts_different f (words_in l)

  module _ (s e : ℕ) (es : s ≡ word_start l at) (more : s < length l) (ee : e ≡ word_end l s) (w : Word) (ew : w ≡ take (e - s) (drop s l))
      (k : Word) (ek : k ≡ take (length l) (drop e l)) (t : Bool) (is : t ≡ (f w && not (among w (words_in k)))) (d : ℕ) (ed : d ≡ from_bool t) where
    later : k ≡ drop e l
    later = ek ∙ take_all (length l) (drop e l) (omega (arith, length-drop e l))

    one_more : d ≤ 1
    one_more = rw ed (go t)
      where
        go : (u : Bool) → from_bool u ≤ 1
        go true = omega arith
        go false = omega arith

    as_one : d ≡ cond t 1 0
    as_one = ed ∙ go t
      where
        go : (u : Bool) → from_bool u ≡ cond u 1 0
        go true = refl
        go false = refl

    pub counted_more : Counted f l e (n + d)
    unfolding last_ones
    counted_more =
        let z : last_ones f (words_in (drop at l)) ≡ d + last_ones f (words_in (drop e l)) =
        ap (last_ones f) (the_next l at s e es more ee).words ∙ rw (← ew, as_one, is, later) in
        record {
          within = word-within l at s e es more ee;
          few = omega (arith, c.few, word_on l at s e es more ee, one_more);
          rest = omega (arith, c.rest, z);
        }
