-- When what is kept beside a state is right.
use Rattle.std.specs.Prelude.{◌≡◌, ℕ, ◌<◌, ◌≤◌, get_or}
use Rattle.parts.specs.Limits.{cells_max, names_max}
use Rattle.model.specs.State.{St, used}
use Rattle.kept.specs.declared.Kept.{Kept}

pub record Right (k : Kept) (s : St) : Type 0 where
  pub cells : k.cells ≡ used s.symbols
  pub names : k.names ≡ used s.names
  pub cells_taken : (i : ℕ) → i < k.low_cell → 0 < get_or s.symbols i 0
  pub names_taken : (x : ℕ) → x < k.low_name → 0 < get_or s.names x 0
  pub cells_fit : k.low_cell ≤ cells_max
  pub names_fit : k.low_name ≤ names_max
