-- The lines of an answer are never longer than 65,536 bytes.
use Prim.Native.Nat.{ℕ, suc, ◌+◌, ◌*◌, ◌≤◌}
use Rattle.std.specs.Prelude.{◌≡◌, refl, length}
use Rattle.std.proofs.Common.{ap, ◌∙◌}
use mathlib.Core.List.{List, [], ◌∷◌, ◌++◌, map}
use native.Mathlib.Omega.{arith}
use Rattle.std.proofs.Math.ListN.{length-append}
use Rattle.parts.specs.Limits.{identifier_max}
use Rattle.calculus.specs.Terms.{Sort, one, many, Tree, var, node, nil, cons, Term, Terms, names}
use Rattle.texts.specs.Bytes.{text_of, tabbed, line_of}
use Rattle.texts.specs.Books.{Agent, word_face, write_face, write_equation, pairs}
use Rattle.texts.specs.Terms.{spell, brackets, closing}
use Rattle.model.specs.Sound.{meaning}
use Rattle.state.specs.Layout.{view}
use Rattle.table.specs.Layout.{agents_in}
use Rattle.lent.specs.Both.{BothSound, sound-state}
use Rattle.answers.specs.Answer.{Reader, Reading, read_by, read, agents, stuck, sides, face_read, Answer}
use Rattle.answers.specs.Text.{spelling, numeral, Text, text, texts, eq_lines, answer_text}
use Rattle.answers.proofs.Main.{all_told}
use Rattle.answers.proofs.Beneath.Along.{size}
use Rattle.answers.proofs.Beneath.Substituting.{sides-size}
use Rattle.answers.proofs.Beneath.Tally.{cells-are-agents, stuck-many}
use Rattle.answer.proofs.Tails.{cells-few}
use Rattle.printing.specs.Puts.{name_long}
use Rattle.printing.proofs.Pays.{numeral-short, spelling-short}
use Rattle.evaluation.specs.Evaluated.{output_max}
use Rattle.review.specs.Promises.{net_answer, lines_of_net}
use Rattle.review.proofs.Beneath.FewNames.{few-printed}

-- What an agent and a name add at most, with the byte before each.
abbrev dear : {s : Sort} → Tree s → ℕ
dear t = (identifier_max + 2) * agents t + (1 + name_long) * length (names t)

-- A term with the byte before it; terms with the bracket that ends them.
abbrev Short : (s : Sort) → Text s → ℕ → Type 0
Short one t n = 1 + length (spell t) ≤ n
Short many ts n = (length (brackets ts) ≤ 1 + n) × (length (closing ts) ≤ 1 + n)

module _ (ags : List Agent) (short : (a : ℕ) → length (spelling ags a) ≤ identifier_max) where
  spell-short : {s : Sort} (t : Tree s) → Short s (text ags t) (dear t)
  unfolding spell brackets closing
  spell-short (var k) = omega (arith, numeral-short k, length-append (numeral k) [])
  spell-short (node a ts) =
      omega (arith, short a, length-append (spelling ags a) (brackets (text ags ts)), (spell-short ts).0)
  spell-short nil = (omega arith, omega arith)
  spell-short (cons t ts) =
      let more : suc (length (spell (text ags t) ++ closing (text ags ts))) ≤ 1 + dear (cons t ts) =
      omega (
        arith,
        length-append (spell (text ags t)) (closing (text ags ts)),
        spell-short t,
        (spell-short ts).1,
        length-append (names t) (names ts),
      ) in
      (more, more)

  tabbed-short : (ts : Terms) → length (tabbed (map spell (texts ags ts))) ≤ dear ts
  unfolding tabbed
  tabbed-short nil = omega arith
  tabbed-short (cons t ts) =
      omega (
        arith,
        length-append (spell (text ags t)) (tabbed (map spell (texts ags ts))),
        spell-short t,
        tabbed-short ts,
        length-append (names t) (names ts),
      )

  eqs-short : (m : ℕ) (ts : Terms) → size ts ≡ 2 * m → length (text_of (eq_lines ags ts)) ≤ 3 * m + dear ts
  unfolding text_of pairs write_equation line_of tabbed
  eqs-short m nil e = omega arith
  eqs-short m (cons t nil) e = absurd (omega (arith, e))
  eqs-short ℕ.zero (cons t (cons u ts)) e = absurd (omega (arith, e))
  eqs-short (ℕ.suc m) (cons t (cons u ts)) e =
      let rest = text_of (eq_lines ags ts) in
      let a = spell (text ags t) in
      let b = spell (text ags u) in
      omega (
        arith,
        length-append (a ++ (9 ∷ (b ++ []))) (10 ∷ rest),
        length-append a (9 ∷ (b ++ [])),
        length-append b [],
        spell-short t,
        spell-short u,
        eqs-short m ts (omega (arith, e)),
        length-append (names t) (names u ++ names ts),
        length-append (names u) (names ts),
      )

  answer-short : (A : Answer) (m : ℕ) → size A.pairs ≡ 2 * m
      → length (answer_text ags A) ≤ 5 + 3 * m + (dear A.face + dear A.pairs)
  unfolding answer_text text_of write_face line_of
  answer-short A m e =
      let line = tabbed (map spell (texts ags A.face)) in
      omega (
        arith,
        length-append (word_face ++ line) (10 ∷ text_of (eq_lines ags A.pairs)),
        tabbed-short A.face,
        eqs-short m A.pairs e,
      )

-- A reading shows as many terms as it reads.
read_by-size : (f : Term → Reader → Reading one) (ts : Terms) (S : Reader) → size (read_by f ts S).shown ≡ size ts
read_by-size f nil S = refl
read_by-size f (cons t ts) S = ap suc (read_by-size f ts (read_by f t S).after)

read-size : (n : ℕ) (ts : Terms) (S : Reader) → size (read n ts S).shown ≡ size ts
read-size ℕ.zero ts S = read_by-size (λ u R. record { shown = var 0; after = R }) ts S
read-size (ℕ.suc n) ts S = read_by-size (read n) ts S

pub lines-short : {w v : List ℕ} (h : BothSound w v) → (view v).waiting.used ≡ 0 → length (lines_of_net h) ≤ output_max
lines-short {w} {v} h e =
    let s = sound-state h in
    let C = meaning s in
    let A = net_answer h in
    let m = length (stuck C.eqs) in
    omega (
      arith,
      answer-short (agents_in w) (spelling-short w) A m
          (read-size (length C.eqs) (sides (stuck C.eqs)) (face_read C).after ∙ sides-size (stuck C.eqs)),
      few-printed s,
      all_told C,
      cells-few (view v) _ s.sizes (cells-are-agents s),
      stuck-many s e,
      s.sizes.stucks,
    )
