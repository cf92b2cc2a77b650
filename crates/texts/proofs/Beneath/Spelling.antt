-- `term_of s` is the worded term that is spelled s: both ways.
use Rattle.std.specs.Prelude.{ℕ, ◌≡◌, refl, Bool, true, false, cond, ◌&&◌, ◌||◌, ◌↔◌, List, [], ◌∷◌, ◌++◌, eqb}
use Rattle.std.proofs.Common.{ap, append_assoc, append-nil, arith, eqb-true}
use Rattle.std.proofs.Math.Option.{none, some}
use Rattle.texts.specs.Bytes.{Word, all, letter, digit, word_byte}
use Rattle.texts.specs.Terms.{identifier, Term, Terms, term, nil, cons, spell, brackets, closing, worded, wordeds}
use Rattle.texts.proofs.Beneath.Tools.{both, pair, pick}
use Rattle.texts.specs.Reader.{Part, part, wrong, at_comma, at_open, at_close, on_part, part_of, whole, term_of}

-- Every spelling is read.
pub first_word : (b : ℕ) → (letter b || eqb b 95) ≡ true → word_byte b ≡ true
unfolding word_byte
first_word b h = go (letter b) (digit b) (eqb b 95) h
  where
    go : (l d u : Bool) → (l || u) ≡ true → (l || d || u) ≡ true
    go true d u k = refl
    go false true u k = refl
    go false false u k = k

pub identifier-bytes : (w : Word) → identifier w ≡ true → all word_byte w ≡ true
unfolding identifier all
identifier-bytes [] h = refl
identifier-bytes (b ∷ bs) h =
    let p = both (letter b || eqb b 95) (all word_byte bs) h in pair (word_byte b) (all word_byte bs) (first_word b p.0) p.1

word_on : (w s : List ℕ) {v : Word} {ts : Terms} {out : List Terms}
    → all word_byte w ≡ true → part_of s ≡ part v ts out → part_of (w ++ s) ≡ part (w ++ v) ts out
unfolding part_of on_part all
word_on [] s ok h = h
word_on (b ∷ w) s ok h = let p = both (word_byte b) (all word_byte w) ok in rw (word_on w s p.1 h, p.0)

head_of : Term → Word
head_of (term w ts) = w

args_of : Term → Terms
args_of (term w ts) = ts

comma : (t : Term) (ts : Terms) (out : List Terms) → worded t ≡ true → on_part 44 (part (head_of t) (args_of t) (ts ∷ out)) ≡ part [] nil (cons t ts ∷ out)
unfolding on_part at_comma worded word_byte letter digit head_of args_of
comma (term w us) ts out ok = rw (both (identifier w) (wordeds us) ok).0

opens : (t : Term) (ts : Terms) (out : List Terms) → worded t ≡ true → on_part 40 (part (head_of t) (args_of t) (ts ∷ out)) ≡ part [] (cons t ts) out
unfolding on_part at_open worded word_byte letter digit head_of args_of
opens (term w us) ts out ok = rw (both (identifier w) (wordeds us) ok).0

pub part-cons : (b : ℕ) (s : List ℕ) → part_of (b ∷ s) ≡ on_part b (part_of s)
unfolding part_of
part-cons b s = refl

closes : (out : List Terms) → on_part 41 (part [] nil out) ≡ part [] nil (nil ∷ out)
unfolding on_part at_close word_byte letter digit
closes out = refl

mutual
  unfolding spell worded head_of args_of

  spell-part : (t : Term) (s : List ℕ) {out : List Terms} → worded t ≡ true → part_of s ≡ part [] nil out
      → part_of (spell t ++ s) ≡ part (head_of t) (args_of t) out
  spell-part (term w ts) s ok h =
      let p = both (identifier w) (wordeds ts) ok in
      rw append_assoc (rw append-nil at (word_on w (brackets ts ++ s) (identifier-bytes w p.0) (brackets-part ts s p.1 h)))

  brackets-part : (ts : Terms) (s : List ℕ) {out : List Terms} → wordeds ts ≡ true → part_of s ≡ part [] nil out
      → part_of (brackets ts ++ s) ≡ part [] ts out
  brackets-part nil s ok h = h
  brackets-part (cons t ts) s {out} ok h =
      let p = both (worded t) (wordeds ts) ok in
      rw (part-cons, append_assoc, spell-part t (closing ts ++ s) p.0 (closing-part ts s p.1 h)) (opens t ts out p.0)

  closing-part : (ts : Terms) (s : List ℕ) {out : List Terms} → wordeds ts ≡ true → part_of s ≡ part [] nil out
      → part_of (closing ts ++ s) ≡ part [] nil (ts ∷ out)
  closing-part nil s {out} ok h = rw (part-cons, h) (closes out)
  closing-part (cons t ts) s {out} ok h =
      let p = both (worded t) (wordeds ts) ok in
      rw (part-cons, append_assoc, spell-part t (closing ts ++ s) p.0 (closing-part ts s p.1 h)) (comma t ts (out) p.0)

read_done : (t : Term) → worded t ≡ true → whole (part (head_of t) (args_of t) []) ≡ some t
unfolding whole worded head_of args_of
read_done (term w ts) ok = rw (both (identifier w) (wordeds ts) ok).0

pub term-spell : (t : Term) → worded t ≡ true → term_of (spell t) ≡ some t
unfolding term_of part_of
term-spell t ok = rw (← append-nil (spell t), spell-part t [] ok refl) (read_done t ok)

-- What is read is a spelling.
rest_of : List Terms → List ℕ
rest_of [] = []
rest_of (us ∷ out) = closing us ++ rest_of out

worded_all : List Terms → Bool
worded_all [] = true
worded_all (us ∷ out) = wordeds us && worded_all out

-- What has been read is the text s.
Inv : Part → List ℕ → Type 0
Inv wrong s = Unit {0}
Inv (part w ts out) s = (s ≡ w ++ (brackets ts ++ rest_of out)) × (all word_byte w ≡ true) × (wordeds ts ≡ true) × (worded_all out ≡ true)

inv_comma : (w : Word) (ts : Terms) (out : List Terms) (s : List ℕ) → Inv (part w ts out) s → Inv (at_comma w ts out) (44 ∷ s)
unfolding at_comma Inv rest_of worded_all spell worded all
inv_comma w ts [] s i = tt
inv_comma w ts (us ∷ out) s (e, a, b, c) =
    pick (λ p. Inv p (44 ∷ s)) (identifier w)
    (λ h. (rw (e) (simp append_assoc), refl, refl, rw (h, b) c))
    (λ h. tt)

inv_open : (w : Word) (ts : Terms) (out : List Terms) (s : List ℕ) → Inv (part w ts out) s → Inv (at_open w ts out) (40 ∷ s)
unfolding at_open Inv rest_of worded_all spell worded all
inv_open w ts [] s i = tt
inv_open w ts (us ∷ out) s (e, a, b, c) =
    let q = both (wordeds us) (worded_all out) c in
    pick (λ p. Inv p (40 ∷ s)) (identifier w)
    (λ h. (rw (e) (simp append_assoc), refl, rw (h, b) q.0, q.1))
    (λ h. tt)

inv_close : (w : Word) (ts : Terms) (out : List Terms) (s : List ℕ) → Inv (part w ts out) s → Inv (at_close w ts out) (41 ∷ s)
unfolding at_close Inv rest_of worded_all spell worded all
inv_close [] nil out s (e, a, b, c) = (rw e, refl, refl, c)
inv_close [] (cons t ts) out s i = tt
inv_close (x ∷ w) ts out s i = tt

inv_on : (b : ℕ) (p : Part) (s : List ℕ) → Inv p s → Inv (on_part b p) (b ∷ s)
unfolding on_part Inv all
inv_on b wrong s i = tt
inv_on b (part w ts out) s i =
    let P : Part → Type 0 = λ p. Inv p (b ∷ s) in
    pick P (word_byte b) (λ h. (ap (λ (l : List ℕ). b ∷ l) i.0, rw h i.1, i.2, i.3)) (λ h.
    pick P (eqb b 44) (λ k. rw (eqb-true b 44 k) (inv_comma w ts out s i)) (λ k.
    pick P (eqb b 40) (λ k. rw (eqb-true b 40 k) (inv_open w ts out s i)) (λ k.
    pick P (eqb b 41) (λ k. rw (eqb-true b 41 k) (inv_close w ts out s i)) (λ k. tt))))

inv_of : (s : List ℕ) → Inv (part_of s) s
unfolding part_of Inv rest_of worded_all all spell worded
inv_of [] = (refl, refl, refl, refl)
inv_of (b ∷ s) = inv_on b (part_of s) s (inv_of s)

whole_inv : (p : Part) (s : List ℕ) (t : Term) → Inv p s → whole p ≡ some t → (spell t ≡ s) × (worded t ≡ true)
unfolding whole Inv rest_of worded_all spell worded
whole_inv wrong s t i h = absurd (let z : ◌≡◌ {A = ℕ} 0 1 = cc in omega arith)
whole_inv (part w ts (us ∷ out)) s t i h = absurd (let z : ◌≡◌ {A = ℕ} 0 1 = cc in omega arith)
whole_inv (part w ts []) s t (e, a, b, c) h = go (identifier w) refl h
  where
    go : (q : Bool) → identifier w ≡ q → cond q (some (term w ts)) none ≡ some t → (spell t ≡ s) × (worded t ≡ true)
    go true k j = let z : term w ts ≡ t = cc in rw (← z) (rw (e, append-nil), rw (k, b))
    go false k j = absurd (let z : ◌≡◌ {A = ℕ} 0 1 = cc in omega arith)

pub spell-term : (s : List ℕ) (t : Term) → term_of s ≡ some t → (spell t ≡ s) × (worded t ≡ true)
unfolding term_of
spell-term s t h = whole_inv (part_of s) s t (inv_of s) h

-- The term that a field means is the one that it spells.
pub term-exact : (s : List ℕ) (t : Term) → (term_of s ≡ some t) ↔ ((spell t ≡ s) × (worded t ≡ true))
term-exact s t = (spell-term s t, λ p. rw p.0 at (term-spell t p.1))

-- The word that is begun is of word bytes.
pub part_bytes : (s : List ℕ) (w : Word) (ts : Terms) (out : List Terms) → part_of s ≡ part w ts out → all word_byte w ≡ true
unfolding Inv
part_bytes s w ts out h = by (part_of s) h (inv_of s)
  where
    by : (p : Part) → p ≡ part w ts out → Inv p s → all word_byte w ≡ true
    by p e i = (rw e at i).1
