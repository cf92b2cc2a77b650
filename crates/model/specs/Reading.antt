-- How cells, ties and joins are read as the terms and equations of the calculus.
use Rattle.std.specs.Prelude.{◌≡◌, List, [], ◌∷◌, ◌++◌, ℕ, zero, suc, ◌+◌}
use Rattle.std.proofs.Math.Decide.{dec_lt}
use Rattle.calculus.specs.Terms.{var, node, nil, cons, Term, Terms, Eqn, ◌≐◌}
use Rattle.parts.specs.Sides.{Side, name, cell, Pair, ◌:=◌}
use Rattle.model.specs.State.{free, bare, to, bond}
use Rattle.model.specs.Table.{Cell}

-- `Reads mem ss ts cs`: with the cells `mem`, the sides ss are the terms ts, and the cells met on the way are cs,
-- each as often as it is met. A reading is finite, so nothing that is read goes round in a circle of cells.
pub data Reads (mem : ℕ → Cell) : List Side → Terms → List ℕ → Type 0 where
  none : Reads mem [] nil []
  by_name : {x : ℕ} {ss : List Side} {ts : Terms} {cs : List ℕ} → Reads mem ss ts cs
      → Reads mem (name x ∷ ss) (cons (var x) ts) cs
  by_cell : {c : ℕ} {k : Cell} {ss : List Side} {us ts : Terms} {ds cs : List ℕ} → mem c ≡ k
      → Reads mem k.args us ds → Reads mem ss ts cs
      → Reads mem (cell c ∷ ss) (cons (node k.symbol us) ts) (c ∷ (ds ++ cs))

-- The same for equations.
pub data ReadsAll (mem : ℕ → Cell) : List Pair → List Eqn → List ℕ → Type 0 where
  no_pairs : ReadsAll mem [] [] []
  pairs : {a b : Side} {t u : Term} {cs ds : List ℕ} {l : List Pair} {m : List Eqn}
      → Reads mem (a ∷ b ∷ []) (cons t (cons u nil)) cs → ReadsAll mem l m ds
      → ReadsAll mem ((a := b) ∷ l) ((t ≐ u) ∷ m) (cs ++ ds)

-- A tie of x to a cell is the equation x = c; a join of x and y is told by both names, and is the equation x = y at
-- the lower. These are the ties and joins of the names from number i on.
abbrev pub link : ℕ → Side → List Pair
link x (name y) = elim (dec_lt x y) [ yes h ↦ (name x := name y) ∷ [] | no h ↦ [] ]
link x (cell c) = (name x := cell c) ∷ []

abbrev pub bond_at : ℕ → ℕ → List Pair
bond_at x v = elim (bond v) [ free ↦ [] | bare ↦ [] | to s ↦ link x s ]

abbrev pub bonds : ℕ → List ℕ → List Pair
bonds i [] = []
bonds i (v ∷ l) = bond_at i v ++ bonds (suc i) l

-- All equations: those that wait, the ties and joins, the stuck pairs.
abbrev pub pool_of : List Pair → List Pair → List ℕ → List Pair
pool_of W K ns = W ++ (bonds 0 ns ++ K)

-- An interface and equations, read: the terms and the equations that they are, and the cells met.
pub record Whole (mem : ℕ → Cell) (face : List Side) (P : List Pair) : Type 0 where
  pub terms : Terms
  pub eqs : List Eqn
  pub c₀ : List ℕ
  pub c₁ : List ℕ
  pub face_reads : Reads mem face terms c₀
  pub pool_reads : ReadsAll mem P eqs c₁

-- n loops are n equations x = x, of the names from `range` on.
abbrev pub circles : ℕ → ℕ → List Eqn
circles range zero = []
circles range (suc n) = (var (range + n) ≐ var (range + n)) ∷ circles range n
