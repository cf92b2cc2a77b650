-- What a frame holds, read and entered.
use Prim.Native.Nat.{ℕ, ◌+◌, ◌/◌, ◌<◌}
use mathlib.Core.Path.{◌≡◌, refl, ap, sym, ◌∙◌}
use mathlib.Core.List.{List}
use native.Mathlib.Omega.{arith}
use lib.ListN.{get_or}
use Rattle.parts.specs.Sides.{side}
use Rattle.parts.specs.Typed.{plain, typed, plain-typed}
use Rattle.parts.specs.declared.NameNo.{NameNo}
use Rattle.parts.specs.declared.CellNo.{CellNo}
use Rattle.parts.specs.declared.Side.{Side}
use Rattle.parts.specs.declared.Side.TheVariants.{Name, Cell}
use Rattle.firing.specs.Frames.{cells_at, frame_size, place, worth, cell_in}

module _ (n w : ℕ) (t : Side) (e : w ≡ n) (d : t ≡ typed (side w)) where
  side_is : side n ≡ plain t
  side_is = ap side (sym e) ∙ sym (plain-typed (side w)) ∙ ap plain (sym d)

  module _ (x : NameNo) (q : t ≡ Name x) where
    place-name : place (side n) ≡ x.0
    place-name = ap place (side_is ∙ ap plain q)

    pub name-inside : place (side n) < frame_size → x.0 < frame_size
    name-inside h = omega (arith, place-name)

    pub worth-name : (F : List ℕ) (r : ℕ) → r ≡ x.0 → get_or F r 0 ≡ worth F n
    unfolding worth
    worth-name F r h = ap (λ i. get_or F i 0) (h ∙ sym place-name)

  module _ (c : CellNo) (q : t ≡ Cell c) where
    place-cell : place (side n) ≡ cells_at + c.0
    place-cell = ap place (side_is ∙ ap plain q)

    pub cell-inside : place (side n) < frame_size → cells_at + c.0 < frame_size
    cell-inside h = omega (arith, place-cell)

    pub worth-cell : (F : List ℕ) (r : ℕ) → r ≡ c.0 → get_or F (cells_at + r) 0 ≡ worth F n
    unfolding worth
    worth-cell F r h = ap (λ i. get_or F i 0) (ap (λ i. cells_at + i) h ∙ sym place-cell)

pub cell_in_way : (F : List ℕ) (m : ℕ) → get_or F (cells_at + m) 0 / 2 ≡ cell_in F m
unfolding cell_in
cell_in_way F m = refl
