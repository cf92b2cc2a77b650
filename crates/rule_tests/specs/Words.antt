-- The words of a rule, by how often they stand on its left and on its right.
use Rattle.std.specs.Prelude.{ℕ, ◌+◌, Bool, cond, not, ◌&&◌, ◌||◌, List, [], ◌∷◌, length, eqb, ltb}
use Rattle.parts.specs.Limits.{rule_equations_max, rule_cells_max, rule_names_max}
use Rattle.texts.specs.Bytes.{Word, among, times}
use Rattle.texts.specs.Books.{Agent, Rule, declared, cells_of, rights, new_names_of}

-- A name that stands nowhere among the words of the left.
unfoldable pub new_word : List Agent → List Word → Word → Bool
new_word ags left w = not (declared ags w) && not (among w left)

-- The last occurrences of the words that pass a test.
unfoldable pub last_ones : (Word → Bool) → List Word → ℕ
last_ones p [] = 0
last_ones p (w ∷ ws) = cond (p w && not (among w ws)) 1 0 + last_ones p ws

-- A name that stands neither twice on the right alone, nor once on the left and once on the right.
unfoldable pub wrong_word : List Agent → List Word → List Word → Word → Bool
wrong_word ags left right w =
    not (declared ags w)
    && not (cond (eqb (times w left) 0) (eqb (times w right) 2) (eqb (times w left) 1 && eqb (times w right) 1))

-- "At most 16 equations, 32 cells and 32 new names."
unfoldable pub right_big : List Agent → Rule → Bool
right_big ags r =
    ltb rule_equations_max (length r.right)
    || (ltb rule_cells_max (length (cells_of ags (rights r))) || ltb rule_names_max (length (new_names_of ags r)))
