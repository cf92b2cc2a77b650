-- The walk that meets the identifiers of a field, each with its level, at any depth.
use Rattle.std.specs.Prelude.{ℕ, suc, pred, cond, List, [], ◌∷◌, ◌++◌, eqb}
use Rattle.texts.specs.Bytes.{Word, word_byte}
use Rattle.texts.specs.Terms.{Node}

pub record Met : Type 0 where
  pub word : Word
  pub level : ℕ

-- The brackets open after a byte.
unfoldable pub depth : ℕ → ℕ → ℕ
depth d b = cond (eqb b 40) (suc d) (cond (eqb b 41) (pred d) d)

-- A word that ends with d brackets open.
unfoldable pub met : Word → ℕ → List Met
met [] d = []
met (b ∷ w) d = record { word = b ∷ w; level = suc d } ∷ []

-- D brackets open, w begun.
unfoldable pub walk : ℕ → Word → List ℕ → List Met
walk d w [] = met w d
walk d w (b ∷ s) = cond (word_byte b) (walk d (w ++ (b ∷ [])) s) (met w d ++ walk (depth d b) [] s)

unfoldable pub seen : Node → Met
seen n = record { word = n.word; level = n.level }
