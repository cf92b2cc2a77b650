-- How a step is read in the calculus: a tie or join that is dropped is a Communication, a rule is an Interaction.
use Rattle.std.specs.Prelude.{◌≡◌, List, [], ◌∷◌, ℕ, zero, suc, ◌+◌, ◌≤◌, ◌<◌, length, get_or, set}
use Rattle.calculus.specs.Calculus.{Label, Com, Int, Step}
use Rattle.calculus.specs.Descent.{Steps}
use Rattle.calculus.specs.Nets.{◌≈◌}
use Rattle.calculus.specs.Terms.{Conf}
use Rattle.parts.specs.Sides.{Side, name, cell, Pair, ◌:=◌}
use Rattle.model.specs.State.{Bond, free, bare, to, bond}
use Rattle.model.specs.Table.{Entry, Table, Found, none, straight, turned, entry}
use Rattle.model.specs.Sound.{book}

-- A side followed to its end: a bare name is its own end; of a tied or joined one the tie or join is dropped, and its
-- end is the cell or the name at the other end, which is then bare.
pub record Followed : Type 0 where
  pub end : Side
  pub names : List ℕ

abbrev pub drop_bond : ℕ → Side → List ℕ → List ℕ
drop_bond x (name y) l = set (set l x 0) y 1
drop_bond x (cell c) l = set l x 0

abbrev pub follow_by : ℕ → List ℕ → Bond → Followed
follow_by x l free = record { end = name x; names = l }
follow_by x l bare = record { end = name x; names = l }
follow_by x l (to s) = record { end = s; names = drop_bond x s l }

abbrev pub follow : Side → List ℕ → Followed
follow (name x) l = follow_by x l (bond (get_or l x 0))
follow (cell c) l = record { end = cell c; names = l }

-- How many ties and joins a step drops: one for each side that is a tied or joined name, where the left side is
-- followed first.
abbrev pub hop : Bond → ℕ
hop free = 0
hop bare = 0
hop (to s) = 1

abbrev pub hops : Side → List ℕ → ℕ
hops (name x) l = hop (bond (get_or l x 0))
hops (cell c) l = 0

abbrev pub drops_of : Side → Side → List ℕ → ℕ
drops_of a b l = hops a l + hops b (follow a l).names

abbrev pub drops : Pair → List ℕ → ℕ
drops (name x := t) l = drops_of (name x) t l
drops (cell a := name y) l = drops_of (name y) (cell a) l
drops (cell a := cell b) l = 0

-- The labels of that many Communications.
abbrev pub Coms : ℕ → List Label
Coms zero = []
Coms (suc k) = Com ∷ Coms k

-- The labels of a step, by the rule that the picked equation fires, if any, and the number k of ties and joins that
-- it drops: of a rule, one Interaction by its number; else k Communications, which are none, one or two.
pub data Labels (T : Table) (k : ℕ) : Found → List Label → Type 0 where
  communications : k ≤ 2 → Labels T k none (Coms k)
  interaction : {i : ℕ} {e : Entry} → i < length T.rules → entry T i ≡ e → Labels T k (straight i e) (Int i ∷ [])
  interaction_turned : {i : ℕ} {e : Entry} → i < length T.rules → entry T i ≡ e
      → Labels T k (turned i e) (Int i ∷ [])

-- Steps of the calculus with such labels go from C to C', up to names, order and sides.
pub record ReadAs (T : Table) (k : ℕ) (r : Found) (C C' : Conf) : Type 0 where
  pub labels : List Label
  pub kind : Labels T k r labels
  pub end : Conf
  pub way : Steps (Step (book T)) C labels end
  pub same : end ≈ C'
