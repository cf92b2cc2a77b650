-- The next word of a part is further on.
use Prim.Native.Nat.{ℕ, ◌-◌, ◌≤◌, ◌<◌}
use mathlib.Core.Path.{◌≡◌, refl, ap}
use mathlib.Core.Bool.{Bool, true, false}
use mathlib.Core.List.{List}
use native.Mathlib.Omega.{arith}
use lib.Dec.{ltb}
use lib.ListN.{length, drop}
use borrow.Author.Tests.{ltb-true, ltb-false}
use Rattle.scan.specs.Words.{word_start, word_end, words_in}
use Rattle.scan.specs.Laws.Wording.{NextWord, next_word}

-- the next word of a part
module _ (l : List ℕ) (at s e : ℕ) (es : s ≡ word_start l at) (more : s < length l) (ee : e ≡ word_end l s) where
  pub the_next : NextWord l at s e
  the_next = rw (← es, ← ee) at (next_word l at (rw es at more))

  pub word-order : s ≤ e
  word-order = the_next.ends

  pub word-within : e ≤ length l
  word-within = the_next.within

  pub word_on : at < e
  word_on = go (ltb at e) refl
    where
      go : (t : Bool) → ltb at e ≡ t → at < e
      go true q = ltb-true at e q
      go false q =
          let z : e ≡ at = omega (arith, ltb-false at e q, the_next.begins, the_next.ends) in
          absurd (omega (arith, ap length the_next.words, ap (λ n. length (words_in (drop n l))) z))

  pub word_less : length l - e < length l - at
  word_less = omega (arith, word_on, word-within)
