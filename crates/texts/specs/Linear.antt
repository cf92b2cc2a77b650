-- The words of a term, in reading order; a test as a number.
use Prim.Native.Nat.{ℕ}
use Rattle.std.specs.Prelude.{Bool, cond}
use mathlib.Core.List.{List, [], ◌∷◌, ◌++◌}
use Rattle.texts.specs.Bytes.{Word}
use Rattle.texts.specs.Terms.{Term, Terms, term, nil, cons}

-- The words of a term, in reading order.
unfoldable mutual
  pub words : Term → List Word
  words (term w ts) = w ∷ words_in ts

  pub words_in : Terms → List Word
  words_in nil = []
  words_in (cons t ts) = words t ++ words_in ts

-- 1 where the test passes.
abbrev pub one : Bool → ℕ
one t = cond t 1 0
