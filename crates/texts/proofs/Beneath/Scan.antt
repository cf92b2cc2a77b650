-- The flat pass over a field: one walk with a count of open brackets, at any depth. It accepts exactly the fields that spell a term.
use Rattle.std.specs.Prelude.{ℕ, zero, suc, ◌≡◌, refl, Bool, true, false, cond, ◌||◌, ◌↔◌, List, [], ◌∷◌, ◌++◌, length, eqb}
use Rattle.std.proofs.Common.{sym, ap, append_assoc, append-nil, arith, eqb-true}
use Rattle.std.proofs.Math.Option.{some}
use Rattle.texts.specs.Bytes.{Word, all, letter, digit, word_byte}
use Rattle.texts.specs.Terms.{identifier, Term, Terms, term, nil, cons, spell, brackets, closing, worded, wordeds}
use Rattle.texts.proofs.Beneath.Tools.{never, both, pair}
use Rattle.texts.proofs.Beneath.Spelling.{first_word, part-cons, part_bytes, spell-term}
use Rattle.texts.specs.Reader.{part, at_comma, at_open, at_close, on_part, part_of, whole, term_of}
use Rattle.texts.specs.Scan.{Scan, want, word, shut, lost, after_term, next, scan, done}

-- What is accepted is read.
-- what the rest of a field is, where the walk stands so and will be done.
Rest : Scan → List ℕ → Type 0
Rest (want d) s = (w : Word) × (ts : Terms) × (out : List Terms) × (part_of s ≡ part w ts out) × (length out ≡ d) × (identifier w ≡ true)
Rest (word d) s = (w : Word) × (ts : Terms) × (out : List Terms) × (part_of s ≡ part w ts out) × (length out ≡ d)
Rest (shut d) s = (out : List Terms) × (part_of s ≡ part [] nil out) × (length out ≡ d)
Rest lost s = ⊥

on_comma : (w : Word) (ts us : Terms) (out : List Terms) → identifier w ≡ true → on_part 44 (part w ts (us ∷ out)) ≡ part [] nil (cons (term w ts) us ∷ out)
unfolding on_part at_comma word_byte letter digit
on_comma w ts us out i = rw i

on_open : (w : Word) (ts us : Terms) (out : List Terms) → identifier w ≡ true → on_part 40 (part w ts (us ∷ out)) ≡ part [] (cons (term w ts) us) out
unfolding on_part at_open word_byte letter digit
on_open w ts us out i = rw i

on_close : (out : List Terms) → on_part 41 (part [] nil out) ≡ part [] nil (nil ∷ out)
unfolding on_part at_close word_byte letter digit
on_close out = refl

on_word : (b : ℕ) (w : Word) (ts : Terms) (out : List Terms) → word_byte b ≡ true → on_part b (part w ts out) ≡ part (b ∷ w) ts out
unfolding on_part
on_word b w ts out h = rw h

rest_after : (d b : ℕ) (s : List ℕ) → Rest (after_term d b) s → (out : List Terms) × (part_of (b ∷ s) ≡ part [] nil out) × (length out ≡ d)
unfolding after_term Rest
rest_after zero b s r = absurd r
rest_after (suc d) b s r = go (eqb b 44) (eqb b 41) refl refl r
  where
    at_comma_lem : b ≡ 44 → (w : Word) (ts : Terms) (out : List Terms) → part_of s ≡ part w ts out → length out ≡ suc d → identifier w ≡ true
        → (out : List Terms) × (part_of (b ∷ s) ≡ part [] nil out) × (length out ≡ suc d)
    at_comma_lem e w ts [] p l i = absurd (omega arith)
    at_comma_lem e w ts (us ∷ out) p l i = (cons (term w ts) us ∷ out, rw (part-cons, p, e) (on_comma w ts us out i), l)

    go : (t u : Bool) → eqb b 44 ≡ t → eqb b 41 ≡ u → Rest (cond t (want (suc d)) (cond u (shut d) lost)) s
        → (out : List Terms) × (part_of (b ∷ s) ≡ part [] nil out) × (length out ≡ suc d)
    go true u e f (w, ts, out, p, l, i) = at_comma_lem (eqb-true b 44 e) w ts out p l i
    go false true e f (out, p, l) = (nil ∷ out, rw (part-cons, p, eqb-true b 41 f) (on_close out), ap suc l)
    go false false e f r = absurd r

rest-next : (q : Scan) (b : ℕ) (s : List ℕ) → Rest (next q b) s → Rest q (b ∷ s)
unfolding next Rest identifier
rest-next (want d) b s r = go (letter b || eqb b 95) refl r
  where
    go : (t : Bool) → (letter b || eqb b 95) ≡ t → Rest (cond t (word d) lost) s
        → (w : Word) × (ts : Terms) × (out : List Terms) × (part_of (b ∷ s) ≡ part w ts out) × (length out ≡ d) × (identifier w ≡ true)
    go true e (w, ts, out, p, l) =
        (b ∷ w, ts, out, rw (part-cons, p) (on_word b w ts out (first_word b e)), l, pair (letter b || eqb b 95) (all word_byte w) e (part_bytes s w ts out p))
    go false e r = absurd r
rest-next (word d) b s r = go (word_byte b) (eqb b 40) refl refl r
  where
    at_open_lem : b ≡ 40 → (w : Word) (ts : Terms) (out : List Terms) → part_of s ≡ part w ts out → length out ≡ suc d → identifier w ≡ true
        → (v : Word) × (us : Terms) × (out : List Terms) × (part_of (b ∷ s) ≡ part v us out) × (length out ≡ d)
    at_open_lem e w ts [] p l i = absurd (omega arith)
    at_open_lem e w ts (us ∷ out) p l i = ([], cons (term w ts) us, out, rw (part-cons, p, e) (on_open w ts us out i), omega arith)

    go : (t u : Bool) → word_byte b ≡ t → eqb b 40 ≡ u → Rest (cond t (word d) (cond u (want (suc d)) (after_term d b))) s
        → (w : Word) × (ts : Terms) × (out : List Terms) × (part_of (b ∷ s) ≡ part w ts out) × (length out ≡ d)
    go true u e f (w, ts, out, p, l) = (b ∷ w, ts, out, rw (part-cons, p) (on_word b w ts out e), l)
    go false true e f (w, ts, out, p, l, i) = at_open_lem (eqb-true b 40 f) w ts out p l i
    go false false e f r = let q = rest_after d b s r in ([], nil, q.0, q.1, q.2)
rest-next (shut d) b s r = rest_after d b s r
rest-next lost b s r = r

rest-done : (q : Scan) → done q ≡ true → Rest q []
unfolding done Rest part_of
rest-done (want d) h = never h
rest-done (word d) h = ([], nil, [], refl, sym (eqb-true d 0 h))
rest-done (shut d) h = ([], refl, sym (eqb-true d 0 h))
rest-done lost h = never h

rest_of : (s : List ℕ) (q : Scan) → done (scan q s) ≡ true → Rest q s
unfolding scan
rest_of [] q h = rest-done q h
rest_of (b ∷ s) q h = rest-next q b s (rest_of s (next q b) h)

to_term : (s : List ℕ) → Rest (want 0) s → (t : Term) × (term_of s ≡ some t)
unfolding Rest term_of whole
to_term s (w, ts, [], p, l, i) = (term w ts, rw (p, i))
to_term s (w, ts, us ∷ out, p, l, i) = absurd (omega arith)

-- Every spelling is accepted.
end_of : Terms → ℕ → Scan
end_of nil d = word d
end_of (cons t ts) d = shut d

args_of : Term → Terms
args_of (term w ts) = ts

scan-cons : (q : Scan) (b : ℕ) (s : List ℕ) → scan q (b ∷ s) ≡ scan (next q b) s
unfolding scan
scan-cons q b s = refl

end_comma : (us : Terms) (d : ℕ) → next (end_of us (suc d)) 44 ≡ want (suc d)
unfolding end_of next after_term word_byte letter digit
end_comma nil d = refl
end_comma (cons t ts) d = refl

end_close : (us : Terms) (d : ℕ) → next (end_of us (suc d)) 41 ≡ shut d
unfolding end_of next after_term word_byte letter digit
end_close nil d = refl
end_close (cons t ts) d = refl

word_open : (d : ℕ) → next (word d) 40 ≡ want (suc d)
unfolding next word_byte letter digit
word_open d = refl

bytes-scan : (w : Word) (d : ℕ) (s : List ℕ) → all word_byte w ≡ true → scan (word d) (w ++ s) ≡ scan (word d) s
unfolding all next
bytes-scan [] d s h = refl
bytes-scan (b ∷ w) d s h = let p = both (word_byte b) (all word_byte w) h in rw (scan-cons, p.0) (bytes-scan w d s p.1)

word-scan : (w : Word) (d : ℕ) (s : List ℕ) → identifier w ≡ true → scan (want d) (w ++ s) ≡ scan (word d) s
unfolding identifier next
word-scan [] d s h = never h
word-scan (b ∷ w) d s h = let p = both (letter b || eqb b 95) (all word_byte w) h in rw (scan-cons, p.0) (bytes-scan w d s p.1)

mutual
  unfolding spell worded end_of args_of

  spell-scan : (t : Term) (d : ℕ) (s : List ℕ) → worded t ≡ true → scan (want d) (spell t ++ s) ≡ scan (end_of (args_of t) d) s
  spell-scan (term w ts) d s h =
      let p = both (identifier w) (wordeds ts) h in rw (append_assoc, word-scan w d (brackets ts ++ s) p.0) (brackets-scan ts d s p.1)

  brackets-scan : (ts : Terms) (d : ℕ) (s : List ℕ) → wordeds ts ≡ true → scan (word d) (brackets ts ++ s) ≡ scan (end_of ts d) s
  brackets-scan nil d s h = refl
  brackets-scan (cons t ts) d s h =
      let p = both (worded t) (wordeds ts) h in
      rw (scan-cons, word_open, append_assoc, spell-scan t (suc d) (closing ts ++ s) p.0) (closing-scan ts (args_of t) d s p.1)

  closing-scan : (ts : Terms) (us : Terms) (d : ℕ) (s : List ℕ) → wordeds ts ≡ true → scan (end_of us (suc d)) (closing ts ++ s) ≡ scan (shut d) s
  closing-scan nil us d s h = rw (scan-cons, end_close us d)
  closing-scan (cons t ts) us d s h =
      let p = both (worded t) (wordeds ts) h in
      rw (scan-cons, end_comma us d, append_assoc, spell-scan t (suc d) (closing ts ++ s) p.0) (closing-scan ts (args_of t) d s p.1)

end_done : (us : Terms) → done (end_of us 0) ≡ true
unfolding done end_of
end_done nil = refl
end_done (cons t ts) = refl

from-term : (t : Term) → worded t ≡ true → done (scan (want 0) (spell t)) ≡ true
unfolding scan
from-term t h = rw (← append-nil (spell t), spell-scan t 0 [] h) (end_done (args_of t))

-- The flat pass accepts exactly what spells a term.
pub scan-exact : (s : List ℕ) → (done (scan (want 0) s) ≡ true) ↔ ((t : Term) × (term_of s ≡ some t))
scan-exact s = (λ h. to_term s (rest_of s (want 0) h), λ p. let q = spell-term s p.0 p.1 in rw q.0 at (from-term p.0 q.1))
