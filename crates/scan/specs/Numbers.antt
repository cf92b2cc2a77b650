-- What the answer of the number reader stands for.
use Rattle.std.specs.Prelude.{ℕ, ◌≤◌, ◌≡◌, true, List, length, Option, Some, None}
use Rattle.std.proofs.Math.Option as Math
use Rattle.texts.specs.Bytes.{all, digit}

-- an answer of the code as the answer of texts' definitions
abbrev pub value_of : {A : Type 0} → Option A → Math.Option A
value_of (Some n) = Math.some n
value_of None = Math.none

-- at most four bytes, each a digit
pub record Digits (l : List ℕ) : Type 0 where
  pub few : length l ≤ 4
  pub each : all digit l ≡ true
