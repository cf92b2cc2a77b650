-- What the accessors do to a state: an equation put on a pile, one taken out of the waiting ones, a cell freed, the lowest free number.
use Rattle.std.specs.Prelude.{ℕ, zero, suc, ◌+◌, ◌*◌, ◌<◌, ◌≤◌, pred, ◌≡◌, List, [], ◌∷◌, length, get_or, drop}
use Rattle.parts.specs.Limits.{arity_max, waiting_max}
use Rattle.parts.specs.Sides.{Pair}
use Rattle.parts.specs.Typed.{number}
use Rattle.parts.specs.declared.Equation.{Equation}
use Rattle.model.specs.State.{St, Stack, stack, st, pushed, pulled}
use Rattle.state.specs.Places.{size, stored, pile, part_of, counted}
use Rattle.state.specs.declared.Part.TheVariants.{Symbols, Arguments, Waiting}
use Rattle.state.specs.declared.Pile.{Pile}
use Rattle.state.specs.declared.Pile.TheVariants.{Waits, Stucks, Faces}

abbrev pub with_pile : Pile → Stack → St → St
with_pile Waits l s = st s.symbols s.arguments s.names l s.stuck s.face s.loops
with_pile Stucks l s = st s.symbols s.arguments s.names s.waiting l s.face s.loops
with_pile Faces l s = st s.symbols s.arguments s.names s.waiting s.stuck l s.loops

-- An equation put at the head of a list, which is its end.
unfoldable pub put_on : Pile → Pair → St → St
put_on p q s = with_pile p (stack (pushed (pile p s).used q (pile p s).words) (suc (pile p s).used)) s

pub record RoomOn (p : Pile) (e : Equation) (s : St) : Type 0 where
  pub room : 1 + 2 * (pile p s).used < size (part_of p)
  pub left : number e.left < 32768
  pub right : number e.right < 32768

-- Equation number k from the start taken out of those that wait, the others in their order.
unfoldable pub out_of_waiting : ℕ → St → St
out_of_waiting k s = with_pile Waits (stack (pulled k s.waiting.words) (pred s.waiting.used)) s

-- What that asks: k is one of them, and unused places are zero.
pub record Pullable (k : ℕ) (s : St) : Type 0 where
  pub waits : k < s.waiting.used
  pub size : length s.waiting.words ≡ 2 * waiting_max
  pub room : s.waiting.used ≤ waiting_max
  pub zeros : (i : ℕ) → 2 * s.waiting.used ≤ i → get_or s.waiting.words i 0 ≡ 0

-- The equation after number k goes down to its place.
unfoldable pub down : ℕ → St → St
down k s = stored Waiting (1 + 2 * k) (get_or s.waiting.words (3 + 2 * k) 0) (stored Waiting (2 * k) (get_or s.waiting.words (2 + 2 * k) 0) s)

-- Place number k cleared, so that k equations wait.
unfoldable pub cut : ℕ → St → St
cut k s = counted Waits k (stored Waiting (1 + 2 * k) 0 (stored Waiting (2 * k) 0 s))

-- A cell's symbol and its arguments set to zero.
unfoldable pub freed : ℕ → St → St
freed c s =
    stored Arguments (arity_max * c + 3) 0
    (stored Arguments (arity_max * c + 2) 0
    (stored Arguments (arity_max * c + 1) 0 (stored Arguments (arity_max * c + 0) 0 (stored Symbols c 0 s))))

-- How many words stand before the first zero; and so the lowest free number from i on.
unfoldable pub taken : List ℕ → ℕ
taken [] = 0
taken (zero ∷ l) = 0
taken (suc v ∷ l) = suc (taken l)

unfoldable pub free_from : ℕ → List ℕ → ℕ
free_from i l = i + taken (drop i l)
