-- The term that a field spells, read from the field's end; `field-means` says what it is.
use Rattle.std.specs.Prelude.{ℕ, cond, List, [], ◌∷◌, eqb}
use Rattle.std.proofs.Math.Option.{Option, none, some}
use Rattle.texts.specs.Bytes.{Word, word_byte}
use Rattle.texts.specs.Terms.{identifier, Term, Terms, term, nil, cons}

-- What is read: a word begun, the arguments after it, and the terms of each bracket that is closed and not opened yet.
pub data Part : Type 0 where
  part : (word : Word) → (args : Terms) → (outer : List Terms) → Part
  wrong : Part

unfoldable pub at_comma : Word → Terms → List Terms → Part
at_comma w ts [] = wrong
at_comma w ts (us ∷ out) = cond (identifier w) (part [] nil (cons (term w ts) us ∷ out)) wrong

unfoldable pub at_open : Word → Terms → List Terms → Part
at_open w ts [] = wrong
at_open w ts (us ∷ out) = cond (identifier w) (part [] (cons (term w ts) us) out) wrong

unfoldable pub at_close : Word → Terms → List Terms → Part
at_close [] nil out = part [] nil (nil ∷ out)
at_close [] (cons t ts) out = wrong
at_close (b ∷ w) ts out = wrong

-- One byte more in front.
unfoldable pub on_part : ℕ → Part → Part
on_part b wrong = wrong
on_part b (part w ts out) =
    cond (word_byte b) (part (b ∷ w) ts out)
    (cond (eqb b 44) (at_comma w ts out) (cond (eqb b 40) (at_open w ts out) (cond (eqb b 41) (at_close w ts out) wrong)))

unfoldable pub part_of : List ℕ → Part
part_of [] = part [] nil []
part_of (b ∷ bs) = on_part b (part_of bs)

unfoldable pub whole : Part → Option Term
whole wrong = none
whole (part w ts []) = cond (identifier w) (some (term w ts)) none
whole (part w ts (us ∷ out)) = none

unfoldable pub term_of : List ℕ → Option Term
term_of s = whole (part_of s)
