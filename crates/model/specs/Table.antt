-- The table of agents and rules, and the look-up of a pair.
use Rattle.std.specs.Prelude.{List, [], ◌∷◌, ℕ, suc, get_or}
use Rattle.parts.specs.Sides.{Side, Pair}
use Rattle.model.specs.Decisions.{both}

-- "A cell is one agent: a symbol and its arguments."
pub record Cell : Type 0 where
  pub symbol : ℕ
  pub args : List Side

-- A rule: the symbols of its left side, and the equations, cells and number of new names of its right side. There,
-- the name i (below arity_max) stands for argument i of the left agent, arity_max + j for argument j of the right one
-- and 2 arity_max + k for new name number k; the cell m is number m of `cells`. Cells and new names are numbered as
-- the right side is read, outer before inner and left before right.
pub record Entry : Type 0 where
  pub left : ℕ
  pub right : ℕ
  pub body : List Pair
  pub cells : List Cell
  pub fresh : ℕ

-- The arity of each symbol, and the rules.
pub record Table : Type 0 where
  pub arities : List ℕ
  pub rules : List Entry

abbrev pub arity : Table → ℕ → ℕ
arity T s = get_or T.arities s 0

abbrev pub no_cell : Cell
no_cell = record { symbol = 0; args = [] }

abbrev pub no_entry : Entry
no_entry = record { left = 0; right = 0; body = []; cells = []; fresh = 0 }

abbrev pub entry : Table → ℕ → Entry
entry T i = get_or T.rules i no_entry

-- "A pair is matched whichever side is which; for a symbol with itself the left cell is the rule's first." What is
-- found is the rule with its number, as it is written or with its sides exchanged; the first rule has number i.
pub data Found : Type 0 where
  none : Found
  straight : ℕ → Entry → Found
  turned : ℕ → Entry → Found

-- (`both s u a b` decides whether s is a and u is b.)
abbrev pub find : List Entry → ℕ → ℕ → ℕ → Found
find [] i s u = none
find (e ∷ l) i s u =
    elim (both s u e.left e.right) [
      | yes p ↦ straight i e
      | no p ↦ elim (both s u e.right e.left) [ yes q ↦ turned i e | no q ↦ find l (suc i) s u ]
    ]
