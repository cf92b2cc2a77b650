-- What fits in the places of arguments.
use Rattle.std.specs.Prelude.{◌≤◌, length}
use Rattle.parts.specs.Limits.{arity_max}
use Rattle.texts.specs.Books.{Rule, args_of}

-- The arguments of a left field fit in their places.
pub record Few (r : Rule) : Type 0 where
  pub first : length (args_of r.first) ≤ arity_max
  pub second : length (args_of r.second) ≤ arity_max
