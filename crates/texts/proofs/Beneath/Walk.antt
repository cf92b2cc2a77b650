-- The identifiers of a field with their levels, by one flat walk: an identifier inside k open brackets has level k + 1.
use Rattle.std.specs.Prelude.{ℕ, suc, ◌≡◌, refl, true, false, List, [], ◌∷◌, ◌++◌, map}
use Rattle.std.proofs.Common.{sym, ap, ◌∙◌, append_assoc, append-nil}
use Rattle.texts.specs.Bytes.{Word, all, letter, digit, word_byte}
use Rattle.texts.specs.Terms.{identifier, Term, Terms, term, nil, cons, spell, brackets, closing, worded, wordeds, Node, nodes_at, nodes_in}
use Rattle.texts.proofs.Beneath.Tools.{never, both}
use Rattle.texts.proofs.Beneath.Spelling.{identifier-bytes}
use Rattle.texts.specs.Walk.{depth, met, walk, seen}

-- It meets the identifiers of the term.
-- what goes on with no word byte.
Starts : List ℕ → Type 0
Starts [] = Unit {0}
Starts (b ∷ s) = word_byte b ≡ false

walk_break : (w : Word) (d : ℕ) (s : List ℕ) → Starts s → walk d w s ≡ met w d ++ walk d [] s
unfolding walk Starts met
walk_break w d [] h = sym (append-nil (met w d))
walk_break w d (b ∷ s) h = rw h

walk-bytes : (w v : Word) (d : ℕ) (s : List ℕ) → all word_byte w ≡ true → walk d v (w ++ s) ≡ walk d (v ++ w) s
unfolding walk all
walk-bytes [] v d s h = rw append-nil
walk-bytes (b ∷ w) v d s h =
    let p = both (word_byte b) (all word_byte w) h in
    rw p.0 (walk-bytes w (v ++ (b ∷ [])) d s p.1 ∙ rw append_assoc)

walk-word : (w : Word) (d : ℕ) (s : List ℕ) → identifier w ≡ true → Starts s → walk d [] (w ++ s) ≡ record { word = w; level = suc d } ∷ walk d [] s
unfolding met identifier
walk-word [] d s h k = never h
walk-word (b ∷ w) d s h k = walk-bytes (b ∷ w) [] d s (identifier-bytes (b ∷ w) h) ∙ walk_break (b ∷ w) d s k

brackets_start : (ts : Terms) (s : List ℕ) → Starts s → Starts (brackets ts ++ s)
unfolding brackets Starts word_byte letter digit
brackets_start nil s h = h
brackets_start (cons t ts) s h = refl

closing_start : (ts : Terms) (s : List ℕ) → Starts (closing ts ++ s)
unfolding closing Starts word_byte letter digit
closing_start nil s = refl
closing_start (cons t ts) s = refl

walk_open : (d : ℕ) (s : List ℕ) → walk d [] (40 ∷ s) ≡ walk (suc d) [] s
unfolding walk met depth word_byte letter digit
walk_open d s = refl

walk_comma : (d : ℕ) (s : List ℕ) → walk d [] (44 ∷ s) ≡ walk d [] s
unfolding walk met depth word_byte letter digit
walk_comma d s = refl

walk-close : (d : ℕ) (s : List ℕ) → walk (suc d) [] (41 ∷ s) ≡ walk d [] s
unfolding walk met depth word_byte letter digit
walk-close d s = refl

map-append : (ns ms : List Node) → map seen (ns ++ ms) ≡ map seen ns ++ map seen ms
map-append [] ms = refl
map-append (n ∷ ns) ms = rw (map-append ns ms)

mutual
  unfolding spell worded nodes_at seen

  walk-spell : (t : Term) (d : ℕ) (s : List ℕ) → worded t ≡ true → Starts s → walk d [] (spell t ++ s) ≡ map seen (nodes_at (suc d) t) ++ walk d [] s
  walk-spell (term w ts) d s h k =
      let p = both (identifier w) (wordeds ts) h in
      rw (append_assoc, walk-word w d (brackets ts ++ s) p.0 (brackets_start ts s k), walk-brackets ts d s p.1 k)

  walk-brackets : (ts : Terms) (d : ℕ) (s : List ℕ) → wordeds ts ≡ true → Starts s → walk d [] (brackets ts ++ s) ≡ map seen (nodes_in (suc (suc d)) ts) ++ walk d [] s
  walk-brackets nil d s h k = refl
  walk-brackets (cons t ts) d s h k =
      let p = both (worded t) (wordeds ts) h in
      rw (walk_open, append_assoc, walk-spell t (suc d) (closing ts ++ s) p.0 (closing_start ts s), walk-closing ts d s p.1, map-append, append_assoc)

  walk-closing : (ts : Terms) (d : ℕ) (s : List ℕ) → wordeds ts ≡ true → walk (suc d) [] (closing ts ++ s) ≡ map seen (nodes_in (suc (suc d)) ts) ++ walk d [] s
  walk-closing nil d s h = walk-close d s
  walk-closing (cons t ts) d s h =
      let p = both (worded t) (wordeds ts) h in
      rw (walk_comma, append_assoc, walk-spell t (suc d) (closing ts ++ s) p.0 (closing_start ts s), walk-closing ts d s p.1, map-append, append_assoc)

-- The walk over a spelling meets the identifiers of the term, with their levels, in reading order.
pub walk-nodes : (t : Term) → worded t ≡ true → walk 0 [] (spell t) ≡ map seen (nodes_at 1 t)
unfolding walk met Starts
walk-nodes t h = ap (walk 0 []) (sym (append-nil (spell t))) ∙ (walk-spell t 0 [] h tt ∙ append-nil (map seen (nodes_at 1 t)))
