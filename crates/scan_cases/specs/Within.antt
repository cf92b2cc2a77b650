-- Where a line ends: not before it begins, and not past the text.
use Rattle.std.specs.Prelude.{ℕ, ◌≤◌, List, length}

pub record Within (at r : ℕ) (text : List ℕ) : Type 0 where
  pub after : at ≤ r
  pub inside : r ≤ length text
