-- Identifiers and terms, and how they are spelt.
use Rattle.std.specs.Prelude.{ℕ, suc, Bool, true, false, ◌&&◌, ◌||◌, List, [], ◌∷◌, ◌++◌, eqb}
use Rattle.texts.specs.Bytes.{Word, all, letter, word_byte}

-- "Names begin with a letter or underscore, symbols with a letter"; both go on with letters, digits, underscores.
unfoldable pub identifier : Word → Bool
identifier [] = false
identifier (b ∷ bs) = (letter b || eqb b 95) && all word_byte bs

unfoldable pub symbol : Word → Bool
symbol [] = false
symbol (b ∷ bs) = letter b && all word_byte bs

-- "A term is an identifier, or one followed by bracketed terms parted by commas." With no terms there are no brackets.
mutual
  pub data Term : Type 0 where
    term : (head : Word) → (args : Terms) → Term

  pub data Terms : Type 0 where
    nil : Terms
    cons : Term → Terms → Terms

unfoldable mutual
  pub spell : Term → List ℕ
  spell (term w ts) = w ++ brackets ts

  -- what stands after a head
  pub brackets : Terms → List ℕ
  brackets nil = []
  brackets (cons t ts) = 40 ∷ (spell t ++ closing ts)

  -- what stands after a term in brackets
  pub closing : Terms → List ℕ
  closing nil = 41 ∷ []
  closing (cons t ts) = 44 ∷ (spell t ++ closing ts)

-- Every head is an identifier.
unfoldable mutual
  pub worded : Term → Bool
  worded (term w ts) = identifier w && wordeds ts

  pub wordeds : Terms → Bool
  wordeds nil = true
  wordeds (cons t ts) = worded t && wordeds ts

-- The identifiers of a term as they stand: outer before inner, left before right.
pub record Node : Type 0 where
  pub word : Word
  pub args : ℕ
  pub level : ℕ

unfoldable pub count : Terms → ℕ
count nil = 0
count (cons t ts) = suc (count ts)

unfoldable mutual
  pub nodes_at : ℕ → Term → List Node
  nodes_at l (term w ts) = record { word = w; args = count ts; level = l } ∷ nodes_in (suc l) ts

  pub nodes_in : ℕ → Terms → List Node
  nodes_in l nil = []
  nodes_in l (cons t ts) = nodes_at l t ++ nodes_in l ts

-- The same of the terms of a line: "an identifier outside brackets is level 1".
unfoldable pub nodes : List Term → List Node
nodes [] = []
nodes (t ∷ ts) = nodes_at 1 t ++ nodes ts

unfoldable pub words_of : List Node → List Word
words_of [] = []
words_of (n ∷ ns) = n.word ∷ words_of ns
