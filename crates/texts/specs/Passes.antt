-- Numbers 4 and 5 over the fields of a line, by flat walks.
use Rattle.std.specs.Prelude.{Bool, not, ◌||◌, List, [], ◌∷◌, ◌++◌, ltb}
use Rattle.parts.specs.Limits.{level_max}
use Rattle.texts.specs.Bytes.{Word}
use Rattle.texts.specs.RuleText.{is_too_long}
use Rattle.texts.specs.Scan.{want, scan, done}
use Rattle.texts.specs.Walk.{Met, walk}

-- Number 4.
unfoldable pub misspelt : Word → Bool
misspelt f = not (done (scan (want 0) f))

-- Number 5: what the walks over the fields meet, in reading order.
unfoldable pub met_in : List Word → List Met
met_in [] = []
met_in (f ∷ fs) = walk 0 [] f ++ met_in fs

unfoldable pub big_met : Met → Bool
big_met m = is_too_long m.word || ltb level_max m.level
