-- The state: the words of its arrays, and how they are read and written.
use Rattle.std.specs.Prelude.{List, [], ◌∷◌, ◌++◌, ℕ, zero, suc, ◌+◌, ◌*◌, min, length, get_or, take, drop, set, replicate}
use Rattle.parts.specs.Limits.{arity_max, cells_max, names_max, waiting_max, stuck_max, face_max}
use Rattle.parts.specs.Sides.{Side, Pair, ◌:=◌, code, side}

-- A list of equations or terms: its words, and how many equations or terms are in it.
pub record Stack : Type 0 where
  pub words : List ℕ
  pub used : ℕ

abbrev pub stack : List ℕ → ℕ → Stack
stack l n = record { words = l; used = n }

-- "A state holds interface terms, cells, ties (name to cell), joins (name to name), waiting equations in a list,
-- stuck pairs in a list, and a count of loops."
--   symbols: 0 for a cell not in use, s + 1 for one with symbol s.
--   arguments: the code of argument k of cell c at arity_max c + k.
--   names: 0 for a name not in use, 1 for a bare one, 2 + the code of the cell that it is tied or the name that it is
--     joined to.
--   waiting, stuck: the codes of the two sides of each equation, the head of the list at the end of the used part.
--   face: the code of each term of the interface.
pub record St : Type 0 where
  pub symbols : List ℕ
  pub arguments : List ℕ
  pub names : List ℕ
  pub waiting : Stack
  pub stuck : Stack
  pub face : Stack
  pub loops : ℕ

abbrev pub st : List ℕ → List ℕ → List ℕ → Stack → Stack → Stack → ℕ → St
st s a n w k f l = record { symbols = s; arguments = a; names = n; waiting = w; stuck = k; face = f; loops = l }

abbrev pub with_cells : List ℕ → List ℕ → St → St
with_cells l a s = st l a s.names s.waiting s.stuck s.face s.loops

abbrev pub with_names : List ℕ → St → St
with_names l s = st s.symbols s.arguments l s.waiting s.stuck s.face s.loops

abbrev pub with_waiting : Stack → St → St
with_waiting l s = st s.symbols s.arguments s.names l s.stuck s.face s.loops

abbrev pub with_stuck : Stack → St → St
with_stuck l s = st s.symbols s.arguments s.names s.waiting l s.face s.loops

abbrev pub with_loops : ℕ → St → St
with_loops n s = st s.symbols s.arguments s.names s.waiting s.stuck s.face n

-- Nothing in use: all words are zero.
abbrev pub zeros : ℕ → List ℕ
zeros n = replicate n 0

abbrev pub empty : St
empty =
    st
    (zeros cells_max)
    (zeros (arity_max * cells_max))
    (zeros names_max)
    (stack (zeros (2 * waiting_max)) 0)
    (stack (zeros (2 * stuck_max)) 0)
    (stack (zeros face_max) 0)
    0

-- Equation number k from the start of a list of words; the first n of them, the last of these at the head; one put at
-- place n; several put from place n on, the first of them at the head; and number k taken out, so that the rest keep
-- their order.
abbrev pub equation : ℕ → List ℕ → Pair
equation k l = side (get_or l (2 * k) 0) := side (get_or l (1 + 2 * k) 0)

abbrev pub unpack : ℕ → List ℕ → List Pair
unpack zero l = []
unpack (suc n) l = equation n l ∷ unpack n l

abbrev pub pushed : ℕ → Pair → List ℕ → List ℕ
pushed n (a := b) l = set (set l (2 * n) (code a)) (1 + 2 * n) (code b)

abbrev pub pushed_all : ℕ → List Pair → List ℕ → List ℕ
pushed_all n [] l = l
pushed_all n (p ∷ ps) l = pushed (n + length ps) p (pushed_all n ps l)

abbrev pub pulled : ℕ → List ℕ → List ℕ
pulled k l = take (2 * k) l ++ (drop (2 + 2 * k) l ++ (0 ∷ 0 ∷ []))

-- The equations of a stack, from the head.
abbrev pub listed : Stack → List Pair
listed l = unpack l.used l.words

-- The word of a name that is tied or joined to a side; and what a name's word says of it. So no name is both tied and
-- joined.
abbrev pub bound : Side → ℕ
bound s = suc (suc (code s))

pub data Bond : Type 0 where
  free : Bond
  bare : Bond
  to : Side → Bond

abbrev pub bond : ℕ → Bond
bond zero = free
bond (suc zero) = bare
bond (suc (suc n)) = to (side n)

-- How many places are in use, and the lowest n that are free, where the first place is number i.
abbrev pub used : List ℕ → ℕ
used [] = 0
used (v ∷ l) = min 1 v + used l

abbrev pub lowest : ℕ → ℕ → List ℕ → List ℕ
lowest i zero l = []
lowest i (suc n) [] = []
lowest i (suc n) (zero ∷ l) = i ∷ lowest (suc i) n l
lowest i (suc n) (suc v ∷ l) = lowest (suc i) (suc n) l

-- The n numbers from i on.
abbrev pub from : ℕ → ℕ → List ℕ
from i zero = []
from i (suc n) = i ∷ from (suc i) n
