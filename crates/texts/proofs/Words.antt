-- The bytes of the two texts, which stand elsewhere as numbers, spelt out.
use Rattle.std.specs.Prelude.{◌≡◌, refl, [], ◌∷◌}
use Rattle.texts.specs.Bytes.{bytes}

-- Tab, newline, brackets, comma, underscore.
pub marks : bytes "\t\n(),_" ≡ 9 ∷ 10 ∷ 40 ∷ 41 ∷ 44 ∷ 95 ∷ []
marks = refl

-- The first and the last of the letters and of the digits.
pub ranges : bytes "AZaz09" ≡ 65 ∷ 90 ∷ 97 ∷ 122 ∷ 48 ∷ 57 ∷ []
ranges = refl
