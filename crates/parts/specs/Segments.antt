-- A part of a lent array.
use Rattle.std.specs.Prelude.{ℕ, List, take, drop}

-- n numbers of w from number at
unfoldable pub seg : ℕ → ℕ → List ℕ → List ℕ
seg at n w = take n (drop at w)
