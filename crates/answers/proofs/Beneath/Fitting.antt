-- The numbers given never pass the names there are.
use Rattle.std.specs.Prelude.{◌≡◌, refl, List, [], ◌∷◌, ℕ, zero, suc, ◌<◌, get_or, set}
use Rattle.std.proofs.Common.{◌∙◌, arith, length-set}
use Rattle.calculus.proofs.Beneath.Ended.{All}
use Rattle.parts.specs.Limits.{names_max}
use Rattle.parts.specs.Sides.{Side, name, cell}
use Rattle.model.specs.State.{St, Bond, free, bare, to}
use Rattle.model.specs.Table.{Cell, Table}
use Rattle.model.specs.Sound.{mem_of}
use Rattle.model.proofs.Beneath.Facts.{used-set}
use Rattle.model.specs.Ranges.{LiveSide}
use Rattle.texts.specs.Books.{Agent}
use Rattle.answers.specs.Printer.{state_bonds}
use Rattle.answers.specs.Printing.{Pen, pen, Written, numbered, numbered_both, Fits, name_by, side_by, sides_by}
use Rattle.answers.specs.Printing.{cell_met, cell_by}

fits_one : (x : ℕ) (P : Pen) → x < names_max → get_or P.numbers x 0 ≡ 0 → Fits P → Fits (numbered x P)
unfolding numbered
fits_one x P k e F =
    record {
      long = length-set P.numbers x (suc P.next) ∙ F.long;
      few = omega (arith, F.few, e, used-set P.numbers x (suc P.next) (omega (arith, k, F.long)));
    }

fits_two : (x y : ℕ) (P : Pen) → x < names_max → y < names_max → get_or P.numbers x 0 ≡ 0 → Fits P
    → Fits (numbered_both x y P)
unfolding numbered_both
fits_two x y P k j e F =
    let v = suc P.next in
    let l = length-set P.numbers x v in
    record {
      long = length-set (set P.numbers x v) y v ∙ l ∙ F.long;
      few =
          omega (
            arith,
            F.few,
            e,
            used-set P.numbers x v (omega (arith, k, F.long)),
            used-set (set P.numbers x v) y v (omega (arith, j, F.long, l)),
          );
    }

module _
    (ags : List Agent)
    (T : Table)
    (s : St)
    (live-args : (c : ℕ) → LiveSide s (cell c) → All (LiveSide s) (mem_of T s c).args)
    (live-bond : (x : ℕ) (t : Side) → state_bonds s x ≡ to t → LiveSide s t)
  where
    abbrev CellFits : (ℕ → Pen → Written) → Type 0
    CellFits at = (c : ℕ) → LiveSide s (cell c) → (P : Pen) → Fits P → Fits (at c P).after

    module _ (at : ℕ → Pen → Written) (h : CellFits at) where
      name-fits : (x : ℕ) → LiveSide s (name x) → (P : Pen) → Fits P → (v : ℕ) → get_or P.numbers x 0 ≡ v → (b : Bond)
          → state_bonds s x ≡ b → Fits (name_by ags T s at x P v b).after
      name-fits x o P F (suc k) e b q = F
      name-fits x o P F zero e free q = fits_one x P o.0 e F
      name-fits x o P F zero e bare q = fits_one x P o.0 e F
      name-fits x o P F zero e (to (name y)) q = fits_two x y P o.0 (live-bond x (name y) q).0 e F
      name-fits x o P F zero e (to (cell c)) q = h c (live-bond x (cell c) q) P F

      pub side_fits : (t : Side) → LiveSide s t → (P : Pen) → Fits P → Fits (side_by ags T s at t P).after
      side_fits (name x) o P F = name-fits x o P F (get_or P.numbers x 0) refl (state_bonds s x) refl
      side_fits (cell c) o P F = h c o P F

      pub sides_fit : (f g : ℕ) (ts : List Side) → All (LiveSide s) ts → (P : Pen) → Fits P
          → Fits (sides_by ags T s at f g ts P).after
      sides_fit f g [] o P F = F
      sides_fit f g (t ∷ ts) o P F =
          sides_fit g g ts o.1 (side_by ags T s at t P).after (side_fits t o.0 P F)

      met-fits : (c : Cell) → All (LiveSide s) c.args → (P : Pen) → Fits P → (n : ℕ)
          → Fits (cell_met ags T s at c P n).after
      met-fits c o P F zero = F
      met-fits c o P F (suc n) =
          sides_fit 40 44 c.args o (pen P.next P.numbers n) (record { long = F.long; few = F.few })

    pub cell-fits : (n : ℕ) → CellFits (cell_by ags T s n)
    cell-fits zero c o P F = F
    cell-fits (suc n) c o P F = met-fits (cell_by ags T s n) (cell-fits n) (mem_of T s c) (live-args c o) P F P.left
