-- A number in decimal, of any size, without leading zeros.
use Rattle.std.specs.Prelude.{ℕ, zero, suc, ◌+◌, ◌/◌, ◌%◌, [], ◌∷◌, ◌++◌}
use Rattle.texts.specs.Bytes.{Word}

-- The last digit of n.
abbrev pub last : ℕ → Word
last n = (48 + n % 10) ∷ []

-- The digits of n, by the rest of it, without its last digit, and how that is spelt.
abbrev pub grown : (ℕ → Word) → ℕ → ℕ → Word
grown rest n zero = last n
grown rest n (suc m) = rest (suc m) ++ last n

-- The digits of n. The first number lets the definition call itself, and does not matter as long as it is not below n
-- (`spelt-enough`).
unfoldable pub spelt : ℕ → ℕ → Word
spelt zero n = last n
spelt (suc f) n = grown (spelt f) n (n / 10)

unfoldable pub digits : ℕ → Word
digits n = spelt n n

-- The room of a number that a word of the machine holds, with the tab before it.
abbrev pub number_max : ℕ
number_max = 21
