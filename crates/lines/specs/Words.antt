-- The words of fields, one field after the other.
use Rattle.std.specs.Prelude.{List, [], ◌∷◌, ◌++◌}
use Rattle.texts.specs.Bytes.{Word}
use Rattle.scan.specs.Words.{words_in}

unfoldable pub words_of_all : List Word → List Word
words_of_all [] = []
words_of_all (f ∷ fs) = words_in f ++ words_of_all fs
