-- What each loop of the writer does to a state.
use Rattle.std.specs.Prelude.{ℕ, suc, ◌*◌, ◌<◌, ◌≡◌, List, [], ◌∷◌, map}
use Rattle.parts.specs.Limits.{arity_max}
use Rattle.parts.specs.Sides.{Pair, code}
use Rattle.parts.specs.Typed.{pair, number}
use Rattle.parts.specs.declared.Equation.{Equation}
use Rattle.model.specs.Table.{Cell}
use Rattle.model.specs.State.{St}
use Rattle.state.specs.Places.{stored, counted}
use Rattle.state.specs.Moves.{put_on}
use Rattle.state.specs.declared.Part.{Part}
use Rattle.state.specs.declared.Part.TheVariants.{Symbols, Arguments, Face}
use Rattle.state.specs.declared.Pile.TheVariants.{Waits, Faces}

-- Words written one after another into a part, from a place on.
unfoldable pub laid : Part → ℕ → List ℕ → St → St
laid p at [] s = s
laid p at (v ∷ vs) s = laid p (suc at) vs (stored p at v s)

-- A cell written at a number, and cells from a number on.
unfoldable pub cell_written : ℕ → Cell → St → St
cell_written c k s = laid Arguments (arity_max * c) (map code k.args) (stored Symbols c (suc k.symbol) s)

unfoldable pub cells_from : ℕ → List Cell → St → St
cells_from c [] s = s
cells_from c (k ∷ ks) s = cells_from (suc c) ks (cell_written c k s)

-- The interface and how many terms it has.
unfoldable pub faced : List ℕ → ℕ → St → St
faced ws n s = counted Faces n (laid Face 0 ws s)

-- An equation that stands for two sides, whose numbers fit.
pub record Equated (e : Equation) (p : Pair) : Type 0 where
  pub is : pair e ≡ p
  pub left : number e.left < 32768
  pub right : number e.right < 32768

-- Equations put one after another, the last first.
unfoldable pub stacked : List Pair → St → St
stacked [] s = s
stacked (p ∷ ps) s = put_on Waits p (stacked ps s)
