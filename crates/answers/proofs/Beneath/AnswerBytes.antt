-- The byte printer prints the answer of a sound ended state, and what it leaves is the knot.
use Rattle.std.specs.Prelude.{◌≡◌, refl}
use Rattle.std.proofs.Math.Path.{sym, ap, ap₂}
use Rattle.std.proofs.Common.{◌∙◌}
use mathlib.Core.List.{List, [], ◌∷◌, ◌++◌, map, append_assoc}
use Prim.Native.Nat.{ℕ, suc, ◌+◌, ◌≤◌, ◌<◌}
use native.Mathlib.Omega.{arith}
use Rattle.calculus.specs.Terms.{many, nil, cons, Term, Terms}
use Rattle.calculus.proofs.Beneath.Ended.{All}
use Rattle.parts.specs.Limits.{names_max}
use Rattle.parts.specs.Sides.{Side, Pair, ◌:=◌}
use Rattle.model.specs.State.{St, listed, used}
use Rattle.model.specs.Table.{Table}
use Rattle.model.specs.Sound.{Sound, meaning, mem_of, sides}
use Rattle.model.specs.SoundTable.{SoundTable}
use Rattle.model.proofs.Beneath.Facts.{zeros-length, zero_at}
use Rattle.model.specs.Ranges.{LiveSide}
use Rattle.model.proofs.Beneath.Ranges.{face-live, stuck-live}
use Rattle.texts.specs.Bytes.{tabbed, line_of, text_of}
use Rattle.texts.specs.Terms.{spell}
use Rattle.texts.specs.Books.{Agent, pairs, word_face, word_eq, write_face, write_equation}
use Rattle.answers.specs.Answer.{agents, answer}
use Rattle.answers.specs.Printer.{Printer, Printed, side_printed, sides_printed, cell_printed, pair_sides}
use Rattle.answers.specs.Printer.{state_bonds, state_face, state_pairs}
use Rattle.answers.specs.Text.{texts, eq_lines, answer_text}
use Rattle.answers.specs.Printing.{Pen, Written, sides_bytes, line_bytes, pairs_bytes, first_pen, face_written}
use Rattle.answers.specs.Printing.{answer_written}
use Rattle.answers.proofs.Beneath.Live.{all_taken, all_pairs, args-live, bonds-live}
use Rattle.answers.proofs.Beneath.Bound.{state-printed}
use Rattle.answers.proofs.Beneath.Lines.{parted, tabs}
use Rattle.answers.proofs.Beneath.Tally.{cells-are-agents}
use Rattle.answers.proofs.Beneath.Whole.{all_told}
use Rattle.answers.proofs.Beneath.Written.{Follows, WroteAll, sides_write, cell_writes}

-- A line of two terms, and the lines after it.
two_terms : (ags : List Agent) (a b : Term) (bs ls : List ℕ) (ts : Terms) → bs ≡ parted ags 9 9 (cons a (cons b nil))
    → ls ≡ text_of (eq_lines ags ts)
    → (word_eq ++ (bs ++ (10 ∷ []))) ++ ls ≡ text_of (eq_lines ags (cons a (cons b ts)))
unfolding text_of pairs write_equation line_of
two_terms ags a b bs ls ts e f =
    append_assoc word_eq (bs ++ (10 ∷ [])) ls
    ∙ ap (λ l. word_eq ++ l) (append_assoc bs (10 ∷ []) ls)
    ∙ ap₂ (λ k l. word_eq ++ (k ++ (10 ∷ l))) (e ∙ sym (tabs ags (cons a (cons b nil)))) f
    ∙ sym (append_assoc word_eq (tabbed (map spell (texts ags (cons a (cons b nil))))) (10 ∷ text_of (eq_lines ags ts)))

module _ (ags : List Agent) {T : Table} (t : SoundTable T) {s : St} (h : Sound T s) where
  abbrev shown_of : ℕ → List Side → Printer → Printed many
  shown_of m ts R = sides_printed (state_bonds s) (cell_printed (mem_of T s) (state_bonds s) m) ts R

  line_writes : (m : ℕ) (ts : List Side) → All (LiveSide s) ts → (R : Printer) (P : Pen) → Follows R P
      → agents (shown_of m ts R).shown < m → agents (shown_of m ts R).shown ≤ P.left
      → WroteAll ags 9 9 (shown_of m ts R) P (sides_bytes ags T s 9 9 ts P)
  unfolding sides_bytes
  line_writes m ts o R P F i j =
      sides_write ags T s (args-live t h) (bonds-live t h) m (cell_writes ags T s (args-live t h) (bonds-live t h) m) 9 9 ts o R P F i j P.left (omega arith)

  record PairsWrote (p : Printed many) (P : Pen) (w : Written) : Type 0 where
    bytes : w.bytes ≡ text_of (eq_lines ags p.shown)
    follows : Follows p.after w.after
    less : w.after.left + agents p.shown ≡ P.left

  pairs_write : (m : ℕ) (l : List Pair) → All (LiveSide s) (pair_sides l) → (R : Printer) (P : Pen) → Follows R P
      → agents (shown_of m (pair_sides l) R).shown < m → agents (shown_of m (pair_sides l) R).shown ≤ P.left
      → PairsWrote (shown_of m (pair_sides l) R) P (pairs_bytes ags T s l P)
  unfolding pairs_bytes line_bytes pairs text_of
  pairs_write m [] o R P F i j = record { bytes = refl; follows = F; less = omega arith }
  pairs_write m ((a := b) ∷ l) o R P F i j =
      let first = side_printed (state_bonds s) (cell_printed (mem_of T s) (state_bonds s) m) a R in
      let two = shown_of m (a ∷ b ∷ []) R in
      let v = line_writes m (a ∷ b ∷ []) (o.0, (o.1.0, tt)) R P F (omega (arith, i)) (omega (arith, j)) in
      let w =
      pairs_write
      m
      l
      o.1.1
      two.after
      (sides_bytes ags T s 9 9 (a ∷ b ∷ []) P).after
      v.follows
      (omega (arith, i))
      (omega (arith, j, v.less)) in
      record {
        bytes =
            two_terms
            ags
            first.shown
            (side_printed (state_bonds s) (cell_printed (mem_of T s) (state_bonds s) m) b first.after).shown
            _
            _
            (shown_of m (pair_sides l) two.after).shown
            v.bytes
            w.bytes;
        follows = w.follows;
        less = omega (arith, v.less, w.less);
      }

  first_follows : Follows (record { next = 0; numbers = [] }) (first_pen ags T s)
  unfolding first_pen
  first_follows = record { next = refl; numbers = λ x o. zero_at names_max x; long = zeros-length names_max }

  module _ (e : s.waiting.used ≡ 0) where
    abbrev m : ℕ
    m = suc (used s.symbols)

    shown : ((state_face T s m).shown ≡ (answer (meaning h)).face)
        × ((state_pairs T s m).shown ≡ (answer (meaning h)).pairs)
    shown = state-printed t h e m (omega (arith, cells-are-agents h))

    few : agents (state_face T s m).shown + agents (state_pairs T s m).shown + (answer (meaning h)).knot
        ≡ used s.symbols
    few = omega (arith, ap agents shown.0, ap agents shown.1, all_told (meaning h), cells-are-agents h)

    abbrev face_pen : Pen
    face_pen = (sides_bytes ags T s 9 9 (sides s.face) (first_pen ags T s)).after

    face_writes : WroteAll ags 9 9 (state_face T s m) (first_pen ags T s) (sides_bytes ags T s 9 9 (sides s.face) (first_pen ags T s))
    unfolding first_pen
    face_writes =
        line_writes
        m
        (sides s.face)
        (all_taken (LiveSide s) s.face.used s.face.words (face-live t s h))
        (record { next = 0; numbers = [] })
        (first_pen ags T s)
        first_follows
        (omega (arith, few))
        (omega (arith, few))

    pairs_writes : PairsWrote (state_pairs T s m) face_pen (pairs_bytes ags T s (listed s.stuck) face_pen)
    unfolding first_pen
    pairs_writes =
        pairs_write
        m
        (listed s.stuck)
        (all_pairs (LiveSide s) s.stuck.used s.stuck.words (stuck-live t s h))
        (state_face T s m).after
        face_pen
        face_writes.follows
        (omega (arith, few))
        (omega (arith, few, face_writes.less))

    pub bytes_of-answer : (answer_written ags T s).bytes ≡ answer_text ags (answer (meaning h))
    unfolding answer_written face_written line_bytes answer_text text_of write_face line_of
    bytes_of-answer =
        append_assoc word_face (bs ++ (10 ∷ [])) ls
        ∙ ap (λ l. word_face ++ l) (append_assoc bs (10 ∷ []) ls)
        ∙ ap₂
        (λ k l. word_face ++ (k ++ (10 ∷ l)))
        (face_writes.bytes ∙ ap (parted ags 9 9) shown.0 ∙ sym (tabs ags (answer (meaning h)).face))
        (pairs_writes.bytes ∙ ap (λ p. text_of (eq_lines ags p)) shown.1)
        ∙ sym (append_assoc word_face (tabbed (map spell (texts ags (answer (meaning h)).face))) (10 ∷ text_of (eq_lines ags (answer (meaning h)).pairs)))
      where
        bs : List ℕ
        bs = (sides_bytes ags T s 9 9 (sides s.face) (first_pen ags T s)).bytes

        ls : List ℕ
        ls = (pairs_bytes ags T s (listed s.stuck) face_pen).bytes

    pub knot_of_answer : (answer_written ags T s).after.left ≡ (answer (meaning h)).knot
    unfolding answer_written face_written line_bytes first_pen
    knot_of_answer = omega (arith, few, face_writes.less, pairs_writes.less)

    -- The numbers of the two printers at the end.
    pub last_follows : Follows (state_pairs T s m).after (answer_written ags T s).after
    unfolding answer_written face_written line_bytes
    last_follows = pairs_writes.follows
