-- The bytes of an answer: how its terms are spelt, and its lines.
use Rattle.std.specs.Prelude.{List, [], ◌∷◌, map, ℕ, get_or}
use Rattle.calculus.specs.Terms.{Sort, one, many, Tree, var, node, nil, cons, Terms}
use Rattle.texts.specs.Bytes.{Word, decimal, text_of}
use Rattle.texts.specs.Terms as Spelt
use Rattle.texts.specs.Books.{Agent, write_face, write_equation, pairs}
use Rattle.answers.specs.Answer.{Answer}

abbrev pub no_agent : Agent
no_agent = record { symbol = []; arity = 0 }

-- The spelling of a symbol number, in the agents of a table.
unfoldable pub spelling : List Agent → ℕ → Word
spelling ags s = (get_or ags s no_agent).symbol

-- "Names left are printed `_0`, `_1`".
unfoldable pub numeral : ℕ → Word
numeral k = 95 ∷ decimal k

-- A printed tree as a term of a text: an agent is its spelling over its arguments, and `var k` is the name `_k`.
abbrev pub Text : Sort → Type 0
Text one = Spelt.Term
Text many = Spelt.Terms

abbrev pub text : List Agent → {s : Sort} → Tree s → Text s
text ags (var k) = Spelt.term (numeral k) Spelt.nil
text ags (node s ts) = Spelt.term (spelling ags s) (text ags ts)
text ags nil = Spelt.nil
text ags (cons t ts) = Spelt.cons (text ags t) (text ags ts)

-- Terms in a row, one by one.
abbrev pub texts : List Agent → Terms → List Spelt.Term
texts ags nil = []
texts ags (cons t ts) = text ags t ∷ texts ags ts

-- The `face` line, and one `eq` line for each stuck pair, of which both sides are told in turn.
abbrev pub line_of_face : List Agent → Terms → List ℕ
line_of_face ags face = write_face (texts ags face)

abbrev pub eq_lines : List Agent → Terms → List (List ℕ)
eq_lines ags sides = map write_equation (pairs (texts ags sides))

-- "The output buffer takes the `face` and `eq` lines with their newlines."
unfoldable pub answer_text : List Agent → Answer → List ℕ
answer_text ags A = text_of (line_of_face ags A.face ∷ eq_lines ags A.pairs)
