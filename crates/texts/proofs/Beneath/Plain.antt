-- What a well spelt record writes: allowed bytes, and no tab or newline inside a field.
use Rattle.std.specs.Prelude.{ℕ, ◌<◌, ◌≡◌, Bool, true, false, cond, not, ◌&&◌, ◌||◌, length, eqb, leb}
use Rattle.std.proofs.Math.Path.{refl}
use Rattle.std.proofs.Common.{sym, ◌∙◌, arith, eqb-true}
use mathlib.Core.List.{List, [], ◌∷◌, map}
use Rattle.std.proofs.Math.Option.{none, some}
use Rattle.texts.specs.Bytes.{Word, all, letter, digit, word_byte, allowed, fault2, is_number, value, number_of, decimal, tabbed, line_of}
use Rattle.texts.specs.Terms.{identifier, symbol, Term, Terms, term, nil, cons, spell, brackets, closing, worded, wordeds}
use Rattle.texts.proofs.Beneath.Tools.{never, both, pair, all_append, all_mono, any_none}
use Rattle.texts.specs.Splitting.{free}
use Rattle.texts.specs.Bytes.{ended_line}
use Rattle.texts.proofs.Beneath.Splitting.{number-decimal}
use Rattle.texts.proofs.Beneath.Spelling.{identifier-bytes}

-- A byte of a field.
unfoldable pub in_field : ℕ → Bool
in_field b = word_byte b || eqb b 40 || eqb b 41 || eqb b 44

pub word-field : (b : ℕ) → word_byte b ≡ true → in_field b ≡ true
unfolding in_field
word-field b h = rw h

pub field-allowed : (b : ℕ) → in_field b ≡ true → allowed b ≡ true
unfolding in_field allowed
field-allowed b h = rw h

field-free : (m b : ℕ) → in_field m ≡ false → in_field b ≡ true → free m b ≡ true
unfolding free
field-free m b k h = go (eqb b m) refl
  where
    go : (t : Bool) → eqb b m ≡ t → not t ≡ true
    go true e = never (sym k ∙ rw (eqb-true b m e) at h)
    go false e = refl

pub no_tab : (b : ℕ) → in_field b ≡ true → free 9 b ≡ true
unfolding in_field word_byte letter digit
no_tab b h = field-free 9 b refl h

no_newline : (b : ℕ) → in_field b ≡ true → free 10 b ≡ true
unfolding in_field word_byte letter digit
no_newline b h = field-free 10 b refl h

-- Fields.
abbrev pub Plain : Word → Type 0
Plain w = all in_field w ≡ true

pub word-plain : (w : Word) → all word_byte w ≡ true → Plain w
word-plain w h = all_mono word_byte in_field word-field w h

pub symbol-plain : (w : Word) → symbol w ≡ true → Plain w
unfolding symbol all word_byte
symbol-plain [] h = refl
symbol-plain (b ∷ bs) h =
    let p = both (letter b) (all word_byte bs) h in
    pair (in_field b) (all in_field bs) (letter-field b p.0) (word-plain bs p.1)
  where
    letter-field : (b : ℕ) → letter b ≡ true → in_field b ≡ true
    letter-field b h = word-field b (rw h)

marks : (in_field 40 ≡ true) × (in_field 41 ≡ true) × (in_field 44 ≡ true)
unfolding in_field word_byte letter digit
marks = (refl, refl, refl)

mutual
  unfolding spell worded all

  pub spell-plain : (t : Term) → worded t ≡ true → Plain (spell t)
  spell-plain (term w ts) h =
      let p = both (identifier w) (wordeds ts) h in
      all_append in_field w (brackets ts) (word-plain w (identifier-bytes w p.0)) (brackets-plain ts p.1)

  brackets-plain : (ts : Terms) → wordeds ts ≡ true → Plain (brackets ts)
  brackets-plain nil h = refl
  brackets-plain (cons t ts) h =
      let p = both (worded t) (wordeds ts) h in
      pair (in_field 40) _ marks.0 (all_append in_field (spell t) (closing ts) (spell-plain t p.0) (closing-plain ts p.1))

  closing-plain : (ts : Terms) → wordeds ts ≡ true → Plain (closing ts)
  closing-plain nil h = pair (in_field 41) true marks.1 refl
  closing-plain (cons t ts) h =
      let p = both (worded t) (wordeds ts) h in
      pair (in_field 44) _ marks.2 (all_append in_field (spell t) (closing ts) (spell-plain t p.0) (closing-plain ts p.1))

digit-field : (b : ℕ) → digit b ≡ true → in_field b ≡ true
unfolding word_byte
digit-field b h = word-field b (go (letter b) (digit b) (eqb b 95) h)
  where
    go : (l d u : Bool) → d ≡ true → (l || d || u) ≡ true
    go true d u k = refl
    go false d u k = rw k

number-plain : (s : Word) → is_number s ≡ true → Plain s
unfolding is_number
number-plain [] h = never h
number-plain (d ∷ ds) h =
    let s : Word = d ∷ ds in
    let p = both (all digit s && leb (length s) 4) (eqb (length s) 1 || not (eqb d 48)) h in
    all_mono digit in_field digit-field s (both (all digit s) (leb (length s) 4) p.0).0

pub decimal-plain : (n : ℕ) → n < 10000 → Plain (decimal n)
unfolding number_of
decimal-plain n h = go (is_number (decimal n)) refl (number-decimal n h)
  where
    go : (t : Bool) → is_number (decimal n) ≡ t → cond t (some (value 0 (decimal n))) none ≡ some n → Plain (decimal n)
    go true e k = number-plain (decimal n) e
    go false e k = absurd (let z : ◌≡◌ {A = ℕ} 0 1 = cc in omega arith)

abbrev pub Plains : List Word → Type 0
Plains ws = all (all in_field) ws ≡ true

pub spells-plain : (ts : List Term) → all worded ts ≡ true → Plains (map spell ts)
unfolding all
spells-plain [] h = refl
spells-plain (t ∷ ts) h = let p = both (worded t) (all worded ts) h in pair (all in_field (spell t)) _ (spell-plain t p.0) (spells-plain ts p.1)

-- Lines of such fields.
module _ (f : ℕ → Bool) (field : (b : ℕ) → in_field b ≡ true → f b ≡ true) (tab : f 9 ≡ true) where
  tabbed_all : (fs : List Word) → Plains fs → all f (tabbed fs) ≡ true
  unfolding all tabbed
  tabbed_all [] h = refl
  tabbed_all (w ∷ ws) h =
      let p = both (all in_field w) (all (all in_field) ws) h in
      pair (f 9) _ tab (all_append f w (tabbed ws) (all_mono in_field f field w p.0) (tabbed_all ws p.1))

  line_all : (w : Word) (fs : List Word) → Plain w → Plains fs → all f (line_of w fs) ≡ true
  unfolding line_of
  line_all w fs h k = all_append f w (tabbed fs) (all_mono in_field f field w h) (tabbed_all fs k)

pub line_newlines : (w : Word) (fs : List Word) → Plain w → Plains fs → all (free 10) (line_of w fs) ≡ true
unfolding free
line_newlines w fs h k = line_all (free 10) no_newline refl w fs h k

pub line-tabs : (ws : List Word) → Plains ws → all (all (free 9)) ws ≡ true
line-tabs ws h = all_mono (all in_field) (all (free 9)) (λ w k. all_mono in_field (free 9) no_tab w k) ws h

pub line_bytes : (w : Word) (fs : List Word) → Plain w → Plains fs → fault2 (ended_line (line_of w fs)) ≡ false
unfolding fault2 ended_line allowed word_byte letter digit
line_bytes w fs h k =
    any_none (λ b. not (allowed b)) (line_of w fs)
    (all_mono allowed (λ b. not (not (allowed b))) (λ b e. rw e) (line_of w fs) (line_all allowed field-allowed refl w fs h k))
