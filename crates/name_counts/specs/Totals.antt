-- How often a name stands in a state, as a search of the whole state counts it: sums over places.
use Rattle.std.specs.Prelude.{◌≡◌, Bool, List, ℕ, zero, suc, ◌+◌, ◌*◌, ◌≤◌, eqb, get_or}
use Rattle.parts.specs.Limits.{arity_max, cells_max}
use Rattle.parts.specs.Sides.{name, side}
use Rattle.model.specs.State.{St}
use Rattle.model.specs.Table.{Table}
use Rattle.model.specs.Sound.{width, live}
use Rattle.model.specs.Follow.{hops}
use Rattle.model.specs.Test.{is_name}

-- The sum of f over the numbers below n.
unfoldable pub total : ℕ → (ℕ → ℕ) → ℕ
total zero f = 0
total (suc n) f = total n f + f n

-- r is v, and is at most m.
pub record Found (r v m : ℕ) : Type 0 where
  pub is : r ≡ v
  pub few : r ≤ m

-- One if name x stands at place i of l, where the places begin at `from`, none else.
unfoldable pub mark : ℕ → List ℕ → ℕ → ℕ → ℕ
mark x l from i = is_name x (side (get_or l (from + i) 0))

-- How often it stands among the arguments of cell c.
unfoldable pub inside : Table → St → ℕ → ℕ → ℕ
inside T s x c = total (width T.arities (get_or s.symbols c 0)) (mark x s.arguments (arity_max * c))

-- One if it is tied or joined, none else.
unfoldable pub bound_once : St → ℕ → ℕ
bound_once s x = hops (name x) s.names

unfoldable pub occurring : Table → St → ℕ → ℕ
occurring T s x =
    total s.face.used (mark x s.face.words 0)
    + (total (2 * s.waiting.used) (mark x s.waiting.words 0)
    + (total (2 * s.stuck.used) (mark x s.stuck.words 0) + (bound_once s x + total cells_max (inside T s x))))

-- "each name in use occurs exactly twice", and no other name occurs.
unfoldable pub paired : Table → St → ℕ → Bool
paired T s x = eqb (occurring T s x) (2 * live s.names x)
