-- The words of a field one after the other, by where each begins and ends: for a caller that counts cells and names.
use Rattle.std.specs.Prelude.{ℕ, suc, ◌+◌, ◌-◌, ◌≤◌, ◌<◌, ◌≡◌, refl, Bool, true, false, cond, not, List, [], ◌∷◌, ◌++◌, map, length, take, drop}
use Rattle.std.proofs.Common.{sym, ap, ◌∙◌, append-nil, arith, length-drop, drop-drop}
use Rattle.std.proofs.lemmas.List.{map-append}
use Rattle.std.proofs.Math.Seq.{append_snoc}
use Rattle.texts.specs.Bytes.{Word, word_byte}
use Rattle.texts.specs.Walk.{Met, depth, met, walk}
use Rattle.scan.specs.Places.{place}
use Rattle.scan.specs.Laws.Placing.{place_le}
use Rattle.scan.specs.Words.{word_start, word_end, words_in}

abbrev word_of : Met → Word
word_of m = m.word

met-level : (w : Word) (d e : ℕ) → map word_of (met w d) ≡ map word_of (met w e)
unfolding met
met-level [] d e = refl
met-level (b ∷ w) d e = refl

-- the words are the same at any level
pub level-free : (l : List ℕ) (w : Word) (d e : ℕ) → map word_of (walk d w l) ≡ map word_of (walk e w l)
unfolding walk
level-free [] w d e = met-level w d e
level-free (b ∷ s) w d e =
    go (word_byte b) (level-free s (w ++ (b ∷ [])) d e) (level-free s [] (depth d b) (depth e b))
  where
    go : (t : Bool) → map word_of (walk d (w ++ (b ∷ [])) s) ≡ map word_of (walk e (w ++ (b ∷ [])) s)
        → map word_of (walk (depth d b) [] s) ≡ map word_of (walk (depth e b) [] s)
        → map word_of (cond t (walk d (w ++ (b ∷ [])) s) (met w d ++ walk (depth d b) [] s))
        ≡ map word_of (cond t (walk e (w ++ (b ∷ [])) s) (met w e ++ walk (depth e b) [] s))
    go true p q = p
    go false p q =
        map-append word_of (met w d) (walk (depth d b) [] s)
        ∙ (rw (met-level w d e, q) (sym (map-append word_of (met w e) (walk (depth e b) [] s))))

none_in : words_in [] ≡ []
unfolding words_in walk met
none_in = refl

-- a byte of no word is passed
words_skip : (b : ℕ) (s : List ℕ) → word_byte b ≡ false → words_in (b ∷ s) ≡ words_in s
unfolding words_in walk met
words_skip b s h = rw h (level-free s [] (depth 0 b) 0)

stop : List ℕ → ℕ
stop l = place (λ b. not (word_byte b)) l

-- a word that is begun goes on to its end
word-runs : (l : List ℕ) (c : ℕ) (w : Word)
    → map word_of (walk 0 (c ∷ w) l) ≡ (c ∷ (w ++ take (stop l) l)) ∷ words_in (drop (stop l) l)
unfolding walk words_in place stop met
word-runs [] c w = rw append-nil
word-runs (b ∷ s) c w = go (word_byte b) refl (word-runs s c (w ++ (b ∷ [])))
  where
    go : (t : Bool) → word_byte b ≡ t
        → map word_of (walk 0 (c ∷ (w ++ (b ∷ []))) s) ≡ (c ∷ (w ++ (b ∷ []) ++ take (stop s) s)) ∷ words_in (drop (stop s) s)
        → map word_of (cond t (walk 0 (c ∷ (w ++ (b ∷ []))) s) (met (c ∷ w) 0 ++ walk (depth 0 b) [] s))
        ≡ (c ∷ (w ++ take (cond (not t) 0 (suc (stop s))) (b ∷ s))) ∷ words_in (drop (cond (not t) 0 (suc (stop s))) (b ∷ s))
    go true h ih = ih ∙ rw append_snoc
    go false h ih =
        rw append-nil
        (ap (λ (r : List Word). (c ∷ w) ∷ r) (level-free s [] (depth 0 b) 0 ∙ sym (words_skip b s h)))

words_none : (l : List ℕ) → length l ≤ place word_byte l → words_in l ≡ []
unfolding place
words_none [] h = none_in
words_none (b ∷ s) h = go (word_byte b) refl h (words_none s)
  where
    go : (t : Bool) → word_byte b ≡ t → suc (length s) ≤ cond t 0 (suc (place word_byte s))
        → (length s ≤ place word_byte s → words_in s ≡ [])
        → words_in (b ∷ s) ≡ []
    go true e k ih = absurd (omega arith)
    go false e k ih = words_skip b s e ∙ ih (omega arith)

-- a word and those after it
abbrev from_word : List ℕ → List Word
from_word l = take (stop l) l ∷ words_in (drop (stop l) l)

word_here : (b : ℕ) (s : List ℕ) → word_byte b ≡ true → words_in (b ∷ s) ≡ from_word (b ∷ s)
unfolding stop place walk words_in
word_here b s h = rw h (word-runs s b [])

word_first : (l : List ℕ) → place word_byte l < length l
    → words_in l ≡ from_word (drop (place word_byte l) l)
unfolding place
word_first [] h = absurd (omega arith)
word_first (b ∷ s) h = go (word_byte b) refl h (word_first s)
  where
    go : (t : Bool) → word_byte b ≡ t → cond t 0 (suc (place word_byte s)) < suc (length s)
        → (place word_byte s < length s → words_in s ≡ from_word (drop (place word_byte s) s))
        → words_in (b ∷ s) ≡ from_word (drop (cond t 0 (suc (place word_byte s))) (b ∷ s))
    go true e k ih = word_here b s e
    go false e k ih = words_skip b s e ∙ ih (omega arith)

-- from a place on: the word from where the next begins to where it ends, and those after its end
pub record NextWord (l : List ℕ) (at s e : ℕ) : Type 0 where
  pub begins : at ≤ s
  pub ends : s ≤ e
  pub within : e ≤ length l
  pub words : words_in (drop at l) ≡ take (e - s) (drop s l) ∷ words_in (drop e l)

pub next_word : (l : List ℕ) (at : ℕ) → word_start l at < length l
    → NextWord l at (word_start l at) (word_end l (word_start l at))
unfolding stop
next_word l at h =
    let p = place word_byte (drop at l) in
    let n = stop (drop (at + p) l) in
    let z : at + p + n - (at + p) ≡ n = omega arith in
    record {
      begins = omega arith;
      ends = omega arith;
      within = omega (arith, place_le (λ b. not (word_byte b)) (drop (at + p) l), length-drop (at + p) l);
      words =
          rw (z, ← drop-drop n (at + p) l, ← drop-drop p at l)
          (word_first (drop at l) (omega (arith, length-drop at l)));
    }

pub no_word : (l : List ℕ) (at : ℕ) → at ≤ length l → length l ≤ word_start l at → words_in (drop at l) ≡ []
no_word l at k h = words_none (drop at l) (omega (arith, length-drop at l))
