-- What the place of number 5 means: it is below the length exactly where an identifier is too long or too deep.
use Rattle.std.specs.Prelude.{ℕ, suc, ◌+◌, ◌-◌, ◌<◌, ◌≡◌, refl, Bool, true, false, cond, ◌&&◌, ◌||◌, List, [], ◌∷◌, ◌++◌, length, ltb, leb}
use Rattle.std.proofs.Common.{sym, ap, ◌∙◌, arith, zero-add, add-one, length-append, lt-ltb, le-ltb, leb-true, ne_eqb}
use Rattle.std.proofs.Math.Bool.{or-true}
use Rattle.std.proofs.Math.Dec.{leb-suc-suc}
use Rattle.parts.specs.Limits.{identifier_max, level_max}
use Rattle.texts.specs.Bytes.{Word, any, letter, digit, word_byte}
use Rattle.texts.specs.RuleText.{is_too_long}
use Rattle.texts.specs.Walk.{depth, met, walk}
use Rattle.texts.specs.Passes.{big_met}
use Rattle.texts.proofs.Beneath.Tools.{never', any_append}
use Rattle.field_tests.specs.Sized.{passes, begun, big_from, big_at}

-- word bytes are no brackets
word_flat : (d b : ℕ) → word_byte b ≡ true → depth d b ≡ d
unfolding depth word_byte letter digit
word_flat d b h =
    rw (ne_eqb b 40 (λ e. never' (sym h ∙ rw e)), ne_eqb b 41 (λ e. never' (sym h ∙ rw e)))

-- a word with one byte more
abbrev snoc : Word → ℕ → Word
snoc w b = w ++ (b ∷ [])

-- a word with d brackets open is too long or too deep
abbrev big : Word → ℕ → Bool
big w d = ltb identifier_max (length w) || ltb level_max (suc d)

big-word : (w : Word) (d : ℕ) → 0 < length w → any big_met (met w d) ≡ big w d
unfolding any met big_met is_too_long
big-word [] d h = absurd (omega arith)
big-word (b ∷ w) d h = go (big (b ∷ w) d)
  where
    go : (t : Bool) → (t || false) ≡ t
    go true = refl
    go false = refl

snoc-length : (w : Word) (b : ℕ) → length (snoc w b) ≡ suc (length w)
snoc-length w b = length-append w (b ∷ []) ∙ add-one (length w)

-- once it is, however the word goes on
big_stays : (s : List ℕ) (w : Word) (d : ℕ) → 0 < length w → big w d ≡ true
    → any big_met (walk d w s) ≡ true
unfolding walk
big_stays [] w d h k = big-word w d h ∙ k
big_stays (b ∷ s) w d h k = go (word_byte b) (big_stays s (snoc w b) d (omega (arith, snoc-length w b)) more)
  where
    longer : (t : Bool) → leb (suc identifier_max) (length w) ≡ t → (t || ltb level_max (suc d)) ≡ true
        → big (snoc w b) d ≡ true
    longer true e j =
        let h : identifier_max < length w = leb-true (suc identifier_max) (length w) e in
        rw (lt-ltb identifier_max (length (snoc w b)) (omega (arith, snoc-length w b)))
    longer false e j = rw j (or-true (ltb identifier_max (length (snoc w b))))

    more : big (snoc w b) d ≡ true
    more = longer (ltb identifier_max (length w)) refl k

    go : (t : Bool) → any big_met (walk d (snoc w b) s) ≡ true
        → any big_met (cond t (walk d (snoc w b) s) (met w d ++ walk (depth d b) [] s)) ≡ true
    go true ih = ih
    go false ih = any_append big_met (met w d) (walk (depth d b) [] s) ∙ rw (big-word w d h, k)

or_swap : (t u : Bool) → (t || u) ≡ (u || t)
or_swap true u = sym (or-true u)
or_swap false true = refl
or_swap false false = refl

-- with one byte more it is, exactly where that byte passes
at_byte : (w : Word) (b d : ℕ) → (leb level_max d || leb identifier_max (length w)) ≡ big (snoc w b) d
at_byte w b d =
    let p : ltb identifier_max (length (snoc w b)) ≡ leb identifier_max (length w) =
    ap (λ (n : ℕ). ltb identifier_max n) (snoc-length w b) ∙ leb-suc-suc identifier_max (length w) in
    let q : ltb level_max (suc d) ≡ leb level_max d = leb-suc-suc level_max d in
    or_swap (leb level_max d) (leb identifier_max (length w)) ∙ (ap (λ (t : Bool). t || leb level_max d) (sym p)
    ∙ ap (λ (t : Bool). ltb identifier_max (length (snoc w b)) || t) (sym q))

module _ (b : ℕ) (s : List ℕ) (i start d : ℕ) (w : Word) (at : start + length w ≡ i) where
  -- a byte of a word
  word-step : word_byte b ≡ true
      → (any big_met (met (snoc w b) d) ≡ false
      → ltb (big_from (i + 1) start d s) (i + 1 + length s) ≡ any big_met (walk d (snoc w b) s))
      → ltb (cond (leb level_max d || leb identifier_max (i - start)) start (big_from (i + 1) start (depth d b) s))
      (i + suc (length s))
      ≡ any big_met (walk d (snoc w b) s)
  word-step h ih =
      let z : i - start ≡ length w = omega arith in
      rw (z, word_flat d b h) (go (leb level_max d || leb identifier_max (length w)) (at_byte w b d))
    where
      long : 0 < length (snoc w b)
      long = omega (arith, snoc-length w b)

      go : (t : Bool) → t ≡ big (snoc w b) d
          → ltb (cond t start (big_from (i + 1) start d s)) (i + suc (length s)) ≡ any big_met (walk d (snoc w b) s)
      go true e = lt-ltb start (i + suc (length s)) (omega arith) ∙ sym (big_stays s (snoc w b) d long (sym e))
      go false e =
          let y : i + suc (length s) ≡ i + 1 + length s = omega arith in
          rw y (ih (big-word (snoc w b) d long ∙ sym e))

  -- a byte of none
  other_step : any big_met (met w d) ≡ false
      → ltb (big_from (i + 1) (i + 1) (depth d b) s) (i + 1 + length s) ≡ any big_met (walk (depth d b) [] s)
      → ltb (big_from (i + 1) (i + 1) (depth d b) s) (i + suc (length s)) ≡ any big_met (met w d ++ walk (depth d b) [] s)
  other_step k ih =
      let y : i + suc (length s) ≡ i + 1 + length s = omega arith in
      rw (y, any_append big_met (met w d) (walk (depth d b) [] s), k) ih

no_word : (d : ℕ) → any big_met (met [] d) ≡ false
unfolding any met
no_word d = refl

-- the pass at i, with the word w begun at `start` and not yet too long or too deep
big_from_lem : (s : List ℕ) (i start d : ℕ) (w : Word) → start + length w ≡ i → any big_met (met w d) ≡ false
    → ltb (big_from i start d s) (i + length s) ≡ any big_met (walk d w s)
unfolding big_from walk passes begun
big_from_lem [] i start d w e k = le-ltb i (i + 0) (omega arith) ∙ sym k
big_from_lem (b ∷ s) i start d w e k =
    go (word_byte b) refl (big_from_lem s (i + 1) start d (snoc w b) (omega (arith, snoc-length w b)))
    (big_from_lem s (i + 1) (i + 1) (depth d b) [] (omega arith) (no_word (depth d b)))
  where
    go : (t : Bool) → word_byte b ≡ t
        → (any big_met (met (snoc w b) d) ≡ false
        → ltb (big_from (i + 1) start d s) (i + 1 + length s) ≡ any big_met (walk d (snoc w b) s))
        → ltb (big_from (i + 1) (i + 1) (depth d b) s) (i + 1 + length s) ≡ any big_met (walk (depth d b) [] s)
        → ltb
        (cond (t && (leb level_max d || leb identifier_max (i - start))) start
        (big_from (i + 1) (cond t start (i + 1)) (depth d b) s)) (i + suc (length s))
        ≡ any big_met (cond t (walk d (snoc w b) s) (met w d ++ walk (depth d b) [] s))
    go true h ih other = word-step b s i start d w e h ih
    go false h ih other = other_step b s i start d w e k other

pub big-exact : (l : List ℕ) → ltb (big_at l) (length l) ≡ any big_met (walk 0 [] l)
big-exact l = rw zero-add at (big_from_lem l 0 0 0 [] refl (no_word 0))
