-- What it is for the equations of a rule to read the same from both sides.
use Rattle.std.specs.Prelude.{Bool, List}
use Rattle.parts.specs.Sides.{Pair}
use Rattle.texts.specs.Bytes.{all, any}
use Rattle.texts.specs.TableTest.{turns_to}

-- Each equation, turned, is one of them.
abbrev pub all_turn : List Pair → Bool
all_turn ps = all (λ p. any (turns_to p) ps) ps
