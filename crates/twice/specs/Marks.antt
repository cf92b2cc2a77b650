-- One mark for each line of terms: how many different names there are up to its end.
use Rattle.std.specs.Prelude.{ℕ, List, [], ◌∷◌, ◌++◌, length}
use Rattle.texts.specs.Bytes.{Word, different}
use Rattle.texts.specs.Terms.{Term}
use Rattle.texts.specs.Books.{Agent, names_of}

-- after the names of earlier lines
unfoldable pub marks_from : List Agent → List Word → List (List Term) → List ℕ
marks_from ags pre [] = []
marks_from ags pre (ts ∷ tss) = length (different (pre ++ names_of ags ts)) ∷ marks_from ags (pre ++ names_of ags ts) tss
