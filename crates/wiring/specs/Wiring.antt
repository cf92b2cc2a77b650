-- Wiring in the shape of the code: both sides followed to their ends, the ties and joins dropped, and the ends fastened.
use Rattle.std.specs.Prelude.{ℕ, ◌+◌, ◌-◌, ◌*◌, ◌<◌, ◌≡◌, Bool, true, false, length, get_or, ltb, eqb}
use Rattle.parts.specs.Limits.{cells_max, names_max, waiting_max}
use Rattle.parts.specs.Sides.{◌:=◌, cell, code, side}
use Rattle.parts.specs.Typed.{plain, number, typed}
use Rattle.parts.specs.declared.NameNo.{NameNo}
use Rattle.parts.specs.declared.Side.{Side}
use Rattle.parts.specs.declared.Side.TheVariants.{Name, Cell}
use Rattle.model.specs.State.{St}
use Rattle.model.specs.Step.{refused}
use Rattle.model.specs.Stepped.{fasten, wire}
use Rattle.state.specs.Places.{stored, looped}
use Rattle.state.specs.Moves.{put_on}
use Rattle.state.specs.declared.Part.TheVariants.{Names}
use Rattle.state.specs.declared.Pile.TheVariants.{Waits}

abbrev pub pick : {A : Type 0} → Bool → A → A → A
pick true a b = a
pick false a b = b

-- The word of a name that is tied or joined to a side.
abbrev pub bound : Side → ℕ
bound s = code (plain s) + 2

-- No name's word is as large as this: 2 + a side's code.
abbrev pub bonds_end : ℕ
bonds_end = 2 + 2 * cells_max

-- What wiring asks of a state: there are as many names as there should be, their words are in range, and an equation more
-- can wait.
pub record Wirable (s : St) : Type 0 where
  pub room : s.waiting.used < waiting_max
  pub names : (x : ℕ) → get_or s.names x 0 < bonds_end
  pub size : length s.names ≡ names_max

-- It is not refused: a loop is counted only where the count is not at its end.
pub record Countable (l r : Side) (s : St) : Type 0 where
  pub can : ¬ (fasten (plain l) (plain r) s ≡ refused 13)

pub record Ready (l r : Side) (s : St) : Type 0 where
  pub wirable : Wirable s
  pub left : number l < names_max
  pub right : number r < names_max
  pub can : ¬ (wire (plain l) (plain r) s ≡ refused 13)

-- "x = x, or x = y with x joined to y".
unfoldable pub loop_here : Side → Side → St → Bool
loop_here (Name x) (Name y) s = pick (eqb x.0 y.0) true (eqb (get_or s.names x.0 0) (bound (Name y)))
loop_here (Name x) (Cell c) s = false
loop_here (Cell c) r s = false

unfoldable pub end_of : Side → St → Side
end_of (Name x) s = pick (ltb (get_or s.names x.0 0) 2) (Name x) (typed (side (get_or s.names x.0 0 - 2)))
end_of (Cell c) s = Cell c

abbrev pub loosened : ℕ → Side → St → St
loosened x (Name y) s = stored Names y.0 1 (stored Names x 0 s)
loosened x (Cell c) s = stored Names x 0 s

unfoldable pub dropped : Side → St → St
dropped (Name x) s =
    pick (ltb (get_or s.names x.0 0) 2) s (loosened x.0 (typed (side (get_or s.names x.0 0 - 2))) s)
dropped (Cell c) s = s

abbrev pub loop_counted : ℕ → St → St
loop_counted x s = looped (s.loops + 1) (stored Names x 0 s)

abbrev pub joined : NameNo → NameNo → St → St
joined x y s = stored Names y.0 (bound (Name x)) (stored Names x.0 (bound (Name y)) s)

unfoldable pub fastened : Side → Side → St → St
fastened (Name x) (Name y) s = pick (eqb x.0 y.0) (loop_counted x.0 s) (joined x y s)
fastened (Name x) (Cell c) s = stored Names x.0 (bound (Cell c)) s
fastened (Cell c) (Name y) s = stored Names y.0 (bound (Cell c)) s
fastened (Cell a) (Cell b) s = put_on Waits (cell a.0 := cell b.0) s

unfoldable pub wired : Side → Side → St → St
wired l r s = fastened (end_of l s) (end_of r (dropped l s)) (dropped r (dropped l s))
