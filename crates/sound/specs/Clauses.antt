-- What each pass asks of one number: the parts of the clauses of a sound state, as the model's test has them.
use Rattle.std.specs.Prelude.{Bool, not, ◌||◌, List, ℕ, leb, eqb, get_or}
use Rattle.parts.specs.Limits.{arity_max}
use Rattle.model.specs.State.{St, bond}
use Rattle.model.specs.Table.{Table}
use Rattle.model.specs.Test.{every, blank, answered}

-- The arguments of cell c past its arity are zero.
unfoldable pub blanks : Table → St → ℕ → Bool
blanks T s c = every arity_max (λ k. blank T s c k)

-- Word i is zero, if it is not among the first n.
unfoldable pub zero_past : ℕ → List ℕ → ℕ → Bool
zero_past n l i = not (leb n i) || eqb (get_or l i 0) 0

-- What name x is joined to is joined to x, and is not x.
unfoldable pub answers : St → ℕ → Bool
answers s x = answered s.names x (bond (get_or s.names x 0))
