-- New names and new cells taken together, and what is kept.
use Prim.Native.Nat.{ℕ, ◌+◌}
use mathlib.Core.Path.{◌≡◌, ap}
use mathlib.Core.List.{List}
use native.Mathlib.Omega.{arith}
use Rattle.model.specs.State.{St, used}
use Rattle.state.specs.declared.Part.TheVariants.{Symbols, Names}
use Rattle.kept.specs.Right.{Right}
use Rattle.kept.specs.declared.Kept.{Kept}
use Rattle.firing.specs.Frames.{names_at, cells_at}
use Rattle.firing.specs.Built.{cells_of, names_of, symbol_word}
use Rattle.firing.specs.Taken.{taken_on, entered, Takeable, Passed, name_code, cell_code}
use Rattle.firing.specs.Fires.{RoomFor, taken_both, entered_both}

module _ (w : List ℕ) (i : ℕ) (k : Kept) (s : St) (f : RoomFor w i s) (r : Right k s) where
  pub names_takeable : Takeable Names (names_of w i) k.low_name s
  names_takeable = record { whole = f.names; room = f.names_room; fits = r.names_fit; below = r.names_taken }

  module _ (y : St) (ey : y ≡ taken_on Names (λ j. 1) (names_of w i) s) where
    same_symbols : y.symbols ≡ s.symbols
    unfolding taken_on
    same_symbols = ap (λ t. t.symbols) ey

    pub cells_takeable : Takeable Symbols (cells_of w i) k.low_cell y
    cells_takeable =
        record {
          whole = rw same_symbols f.symbols;
          room = rw same_symbols f.cells_room;
          fits = r.cells_fit;
          below = λ j h. rw same_symbols (r.cells_taken j h);
        }

    module _ (z : St) (ez : z ≡ taken_on Symbols (symbol_word w i) (cells_of w i) y) where
      pub both-state : z ≡ taken_both w i s
      unfolding taken_both
      both-state = rw (ez, ey)

      pub both-frame : (F F₁ F₂ : List ℕ) → F₁ ≡ entered Names names_at name_code (names_of w i) s F
          → F₂ ≡ entered Symbols cells_at cell_code (cells_of w i) y F₁ → F₂ ≡ entered_both w i s F
      unfolding entered_both
      both-frame F F₁ F₂ p q = rw (q, p, ey)

      same_names : z.names ≡ y.names
      unfolding taken_on
      same_names = ap (λ t. t.names) ez

      pub both_right : (low_cell low_name c n x m : ℕ) → Passed Names (names_of w i) low_name s y → Passed Symbols (cells_of w i) low_cell y z
          → x ≡ c → c ≡ cells_of w i → m ≡ n → n ≡ names_of w i
          → Right (record { cells = k.cells + x; names = k.names + m; low_cell = low_cell; low_name = low_name }) z
      both_right low_cell low_name c n x m pn pc ex ec em en =
          record {
            cells = omega (arith, r.cells, pc.count, ap used same_symbols);
            names = rw same_names (omega (arith, r.names, pn.count));
            cells_taken = pc.below;
            names_taken = λ j h. rw same_names (pn.below j h);
            cells_fit = pc.fits;
            names_fit = pn.fits;
          }
