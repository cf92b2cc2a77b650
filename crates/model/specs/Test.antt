-- The test of a sound state: a walk over the cells, a count of each name, and the other clauses, each by a pass over
-- an array.
use Rattle.std.specs.Prelude.{◌||◌, Bool, true, false, not, ◌&&◌, List, [], ◌∷◌, ◌++◌, ℕ, zero, suc, ◌+◌, ◌*◌, leb, eqb, length, get_or, set}
use Rattle.std.proofs.Math.Decide.{dec_lt}
use Rattle.calculus.specs.Terms.{δ}
use Rattle.parts.specs.Limits.{arity_max, face_max, cells_max, names_max, waiting_max, stuck_max, loops_max}
use Rattle.parts.specs.Sides.{Side, name, cell, Pair, ◌:=◌}
use Rattle.model.specs.State.{St, zeros, listed, bound, Bond, free, bare, to, bond}
use Rattle.model.specs.Table.{Cell, Entry, Table, Found, none, straight, turned, find}
use Rattle.model.specs.Sound.{width, mem_of, sides, pool, live}
use Rattle.model.specs.Walk.{below}
use Rattle.model.specs.Follow.{hops}

-- f holds of all numbers below n.
unfoldable pub every : ℕ → (ℕ → Bool) → Bool
every zero f = true
every (suc n) f = f n && every n f

-- The walk over cells. First the sides of some equations.
abbrev pub sides_of : List Pair → List Side
sides_of [] = []
sides_of ((a := b) ∷ l) = a ∷ b ∷ sides_of l

-- What a walk over cells comes to: it met a cell twice, or one not in use, or a name out of range; or it saw all, and
-- marked the cells seen.
pub data Search : Type 0 where
  lost : Search
  saw : List ℕ → Search

-- Sides to be looked at, and the cells seen so far. `ss` are the words of the cells' symbols, names are below
-- `range`.
unfoldable pub search_from : ℕ → (ℕ → Cell) → List ℕ → ℕ → List Side → List ℕ → Search
search_from zero mem ss range todo seen = lost
search_from (suc n) mem ss range [] seen = saw seen
search_from (suc n) mem ss range (name x ∷ todo) seen =
    elim (dec_lt x range) [ yes h ↦ search_from n mem ss range todo seen | no h ↦ lost ]
search_from (suc n) mem ss range (cell c ∷ todo) seen =
    elim (get_or seen c 0) [
      | zero ↦ elim (get_or ss c 0) [ zero ↦ lost | suc s ↦ search_from n mem ss range ((mem c).args ++ todo) (set seen c 1) ]
      | suc s ↦ lost
    ]

-- From interface and equations on. Each side is looked at once: those, and at most arity_max more for each cell.
abbrev pub roots : St → List Side
roots s = sides s.face ++ sides_of (pool s)

abbrev pub searched : Table → St → Search
searched T s =
    search_from
    (suc (length (roots s) + arity_max * length s.symbols))
    (mem_of T s)
    s.symbols
    names_max
    (roots s)
    (zeros (length s.symbols))

-- Just the cells in use were seen.
abbrev pub all_seen : Search → List ℕ → Bool
all_seen lost ss = false
all_seen (saw seen) ss = every cells_max (λ c. eqb (get_or seen c 0) (live ss c))

unfoldable pub reached : Table → St → Bool
reached T s = all_seen (searched T s) s.symbols

-- The names, by a count of each over the whole state: interface, waiting equations, stuck pairs, arguments of cells,
-- and its own tie or join.
abbrev pub is_name : ℕ → Side → ℕ
is_name x (name y) = δ x y
is_name x (cell c) = 0

abbrev pub times : ℕ → List Side → ℕ
times x [] = 0
times x (a ∷ l) = is_name x a + times x l

abbrev pub occurrences : Table → St → ℕ → ℕ
occurrences T s x =
    times x (sides s.face)
    + (times x (sides_of (listed s.waiting))
    + (times x (sides_of (listed s.stuck)) + (hops (name x) s.names + below cells_max (λ c. times x (mem_of T s c).args))))

unfoldable pub twice : Table → St → Bool
twice T s = every names_max (λ x. eqb (occurrences T s x) (2 * live s.names x))

-- The other clauses.
abbrev pub blank : Table → St → ℕ → ℕ → Bool
blank T s c k =
    not (leb (width T.arities (get_or s.symbols c 0)) k) || eqb (get_or s.arguments (arity_max * c + k) 0) 0

unfoldable pub zeroed : Table → St → Bool
zeroed T s =
    every cells_max (λ c. every arity_max (λ k. blank T s c k))
    && (every (2 * waiting_max) (λ i. not (leb (2 * s.waiting.used) i) || eqb (get_or s.waiting.words i 0) 0)
    && (every (2 * stuck_max) (λ i. not (leb (2 * s.stuck.used) i) || eqb (get_or s.stuck.words i 0) 0)
    && every face_max (λ i. not (leb s.face.used i) || eqb (get_or s.face.words i 0) 0)))

unfoldable pub declared : Table → St → Bool
declared T s = every cells_max (λ c. leb (get_or s.symbols c 0) (length T.arities))

abbrev pub answered : List ℕ → ℕ → Bond → Bool
answered l x free = true
answered l x bare = true
answered l x (to (name y)) = eqb (get_or l y 0) (bound (name x)) && not (eqb x y)
answered l x (to (cell c)) = true

unfoldable pub both_ways : St → Bool
both_ways s = every names_max (λ x. answered s.names x (bond (get_or s.names x 0)))

abbrev pub is_none : Found → Bool
is_none none = true
is_none (straight i e) = false
is_none (turned i e) = false

abbrev pub unruled : List Entry → (ℕ → Cell) → List Pair → Bool
unruled rs mem [] = true
unruled rs mem ((name x := t) ∷ l) = false
unruled rs mem ((cell a := name y) ∷ l) = false
unruled rs mem ((cell a := cell b) ∷ l) = is_none (find rs 0 (mem a).symbol (mem b).symbol) && unruled rs mem l

unfoldable pub sized : St → Bool
sized s =
    eqb (length s.symbols) cells_max
    && (eqb (length s.arguments) (arity_max * cells_max)
    && (eqb (length s.names) names_max
    && (eqb (length s.waiting.words) (2 * waiting_max)
    && (eqb (length s.stuck.words) (2 * stuck_max)
    && (eqb (length s.face.words) face_max
    && (leb s.waiting.used waiting_max && (leb s.stuck.used stuck_max && (leb s.face.used face_max && leb s.loops loops_max))))))))

-- All of them, in document 01's order.
unfoldable pub tested : Table → St → Bool
tested T s =
    reached T s
    && (zeroed T s && (declared T s && (twice T s && (both_ways s && (unruled T.rules (mem_of T s) (listed s.stuck) && sized s)))))
