-- When a state is sound, and what a table and a state mean in the calculus.
use Rattle.std.specs.Prelude.{◌≡◌, List, [], ◌∷◌, ◌++◌, map, ℕ, zero, suc, ◌+◌, ◌*◌, ◌-◌, ◌≤◌, ◌<◌, min, max, pred, length, get_or, take, drop}
use Rattle.calculus.specs.Calculus.{Rule, Book}
use Rattle.calculus.specs.Terms.{count, Conf, names, eqs_names}
use Rattle.parts.specs.Limits.{arity_max, face_max, cells_max, names_max, waiting_max, stuck_max, loops_max}
use Rattle.parts.specs.Sides.{Side, name, cell, Pair, ◌:=◌, side}
use Rattle.model.specs.State.{Stack, St, listed, bound, from}
use Rattle.model.specs.Table.{Cell, Entry, Table, none, find, arity, no_cell, entry}
use Rattle.model.specs.Reading.{ReadsAll, pool_of, Whole, circles}

-- The table. The names of a right side: the left agent's arguments from 0 on, the right one's from arity_max, and the
-- new ones from here.
abbrev pub first_new : ℕ
first_new = 2 * arity_max

-- Of some names of a right side, the new ones come in the order of their numbers, if n of them came before.
abbrev pub InOrder : ℕ → List ℕ → Type 0
InOrder n [] = Unit {0}
InOrder n (x ∷ l) = (x ≤ first_new + n) × InOrder (max n (suc x - first_new)) l

-- An entry reads as a rule of the calculus. Its cells are met in the order of their numbers, each once, and so are
-- its new names.
pub record Means (T : Table) (e : Entry) (r : Rule) : Type 0 where
  pub left : r.left ≡ e.left
  pub right : r.right ≡ e.right
  pub xs : r.xs ≡ from 0 (arity T e.left)
  pub ys : r.ys ≡ from arity_max (arity T e.right)
  pub new : r.new ≡ from first_new e.fresh
  pub reads : ReadsAll (λ m. get_or e.cells m no_cell) e.body r.body (from 0 (length e.cells))
  pub in_order : InOrder 0 (eqs_names r.body)

-- The rules of the calculus that a table gives, by number.
abbrev pub book : Table → Book
book T i r = (i < length T.rules) × Means T (entry T i) r

-- The state. How many arguments a cell has, by its symbol's word; and a cell.
abbrev pub width : List ℕ → ℕ → ℕ
width ar zero = 0
width ar (suc s) = get_or ar s 0

abbrev pub cell_at : List ℕ → List ℕ → List ℕ → ℕ → Cell
cell_at ar ss l c =
    record { symbol = pred (get_or ss c 0); args = map side (take (width ar (get_or ss c 0)) (drop (arity_max * c) l)) }

abbrev pub mem_of : Table → St → ℕ → Cell
mem_of T s = cell_at T.arities s.symbols s.arguments

-- The interface, and all equations of a state.
abbrev pub sides : Stack → List Side
sides l = map side (take l.used l.words)

abbrev pub pool : St → List Pair
pool s = pool_of (listed s.waiting) (listed s.stuck) s.names

-- One if a place is in use, none else.
abbrev pub live : List ℕ → ℕ → ℕ
live l i = min 1 (get_or l i 0)

-- "unused places of every array and list are zero" (of `symbols` and `names` they are so by what the words mean)
pub record Zeros (T : Table) (s : St) : Type 0 where
  pub arguments : (c k : ℕ) → k < arity_max → width T.arities (get_or s.symbols c 0) ≤ k
      → get_or s.arguments (arity_max * c + k) 0 ≡ 0
  pub waiting : (i : ℕ) → 2 * s.waiting.used ≤ i → get_or s.waiting.words i 0 ≡ 0
  pub stuck : (i : ℕ) → 2 * s.stuck.used ≤ i → get_or s.stuck.words i 0 ≡ 0
  pub face : (i : ℕ) → s.face.used ≤ i → get_or s.face.words i 0 ≡ 0

-- "joins go both ways", and no name is joined to itself
abbrev pub Mutual : List ℕ → Type 0
Mutual l = (x y : ℕ) → get_or l x 0 ≡ bound (name y) → (get_or l y 0 ≡ bound (name x)) × ¬ (x ≡ y)

-- "no stuck pair has a rule", and each is of two cells
abbrev pub Held : List Entry → (ℕ → Cell) → Pair → Type 0
Held rs mem (name x := t) = ⊥
Held rs mem (cell a := name y) = ⊥
Held rs mem (cell a := cell b) = find rs 0 (mem a).symbol (mem b).symbol ≡ none

abbrev pub AllHeld : List Entry → (ℕ → Cell) → List Pair → Type 0
AllHeld rs mem [] = Unit {0}
AllHeld rs mem (p ∷ l) = Held rs mem p × AllHeld rs mem l

-- "all sizes hold"
pub record Sizes (s : St) : Type 0 where
  pub symbols : length s.symbols ≡ cells_max
  pub arguments : length s.arguments ≡ arity_max * cells_max
  pub names : length s.names ≡ names_max
  pub waiting : length s.waiting.words ≡ 2 * waiting_max
  pub stuck : length s.stuck.words ≡ 2 * stuck_max
  pub face : length s.face.words ≡ face_max
  pub waits : s.waiting.used ≤ waiting_max
  pub stucks : s.stuck.used ≤ stuck_max
  pub faces : s.face.used ≤ face_max
  pub loops : s.loops ≤ loops_max

-- A sound state, clause by clause as document 01 lists them. (That no name is both tied and joined is by its word.)
pub record Sound (T : Table) (s : St) : Type 0 where
  -- "every cell in use is reached exactly once from interface, ties, waiting and stuck", and no other cell is
  pub reads : Whole (mem_of T s) (sides s.face) (pool s)
  pub once : (c : ℕ) → count c reads.c₀ + count c reads.c₁ ≡ live s.symbols c
  pub zeros : Zeros T s
  -- "each cell's symbol is declared with that many arguments" (as many as its symbol's arity are read, and the others
  -- are zero)
  pub declared : (c : ℕ) → get_or s.symbols c 0 ≤ length T.arities
  -- "each name in use occurs exactly twice among terms, sides, tie heads and join ends", and no other name occurs
  pub twice : (x : ℕ) → count x (names reads.terms) + count x (eqs_names reads.eqs) ≡ 2 * live s.names x
  pub joins : Mutual s.names
  pub stuck : AllHeld T.rules (mem_of T s) (listed s.stuck)
  pub sizes : Sizes s

-- The net that a sound state stands for: interface, equations, and each loop an equation x = x of a name past the
-- machine's.
abbrev pub meaning : {T : Table} {s : St} → Sound T s → Conf
meaning {s = s} h = record { face = h.reads.terms; eqs = h.reads.eqs ++ circles names_max s.loops }
