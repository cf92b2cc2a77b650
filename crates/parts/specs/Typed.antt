-- What the typed sides and equations of the code stand for.
use Rattle.std.specs.Prelude.{◌≡◌, refl, ℕ}
use Rattle.parts.specs.Sides.{name, cell, Pair, ◌:=◌, side}
use Rattle.parts.specs.Sides as Plain
use Rattle.parts.specs.declared.Side.{Side}
use Rattle.parts.specs.declared.Side.TheVariants.{Name, Cell}
use Rattle.parts.specs.declared.Equation.{Equation}

abbrev pub plain : Side → Plain.Side
plain (Name x) = name x.0
plain (Cell c) = cell c.0

abbrev pub pair : Equation → Pair
pair e = plain e.left := plain e.right

-- The number of a side.
abbrev pub number : Side → ℕ
number (Name x) = x.0
number (Cell c) = c.0

abbrev pub typed : Plain.Side → Side
typed (name x) = Name (record { 0 = x })
typed (cell c) = Cell (record { 0 = c })

abbrev pub equation : ℕ → ℕ → Equation
equation l r = record { left = typed (side l); right = typed (side r) }

pub typed-plain : (s : Side) → typed (plain s) ≡ s
typed-plain (Name x) = refl
typed-plain (Cell c) = refl

pub plain-typed : (s : Plain.Side) → plain (typed s) ≡ s
plain-typed (name x) = refl
plain-typed (cell c) = refl
