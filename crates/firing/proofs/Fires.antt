-- The parts of an interaction, one after another: what the model fires.
use Prim.Native.Nat.{ℕ, ◌+◌, ◌*◌, ◌≤◌}
use mathlib.Core.Path.{◌≡◌, refl, ap₂, sym, ◌∙◌}
use mathlib.Core.List.{List, ◌++◌, map}
use native.Mathlib.Omega.{arith}
use lib.ListN.{length, get_or}
use Rattle.parts.specs.Limits.{cells_max, waiting_max}
use Rattle.parts.specs.Sides.{side}
use Rattle.model.specs.State.{St, st, used, lowest, zeros}
use Rattle.model.specs.Step.{fired, puts, zero_cell, inst_cell, inst_pair, write_symbols, write_arguments, set_bare}
use Rattle.model.specs.Step as Step
use Rattle.model.specs.Stepped.{Room}
use Rattle.model.proofs.Lowest.{all_free, as_many}
use Rattle.kept.specs.Right.{Right}
use Rattle.kept.specs.declared.Kept.{Kept}
use Rattle.state.specs.Moves.{freed}
use Rattle.table.specs.Layout.{entry_of, entry_at}
use Rattle.table.specs.Laws.Lists.{length-tab}
use Rattle.firing.specs.Frames.{frame_size, four}
use Rattle.firing.specs.Built.{Ruled, CellsIn, equations_of, cells_of, names_of, argued_on, put_from}
use Rattle.firing.specs.Taken.{taken_on, entered}
use Rattle.firing.specs.Fires.{Pairing, RoomFor, opened, taken_both, entered_both, built}
use Rattle.firing.proofs.Held.{quad-four, full, cell-number}
use Rattle.firing.proofs.Meaning.{bare_is, symbols-are, arguments-are, body_is}
use Rattle.firing.specs.Pairs.{first_inside, second-inside, emptied-size, emptied-used}
use Rattle.firing.proofs.Opening.{opened_is}

-- How many cells and equations the rule has, in the words of the model.
cells-many : (w : List ℕ) (i : ℕ) → length (entry_at w i).cells ≡ cells_of w i
unfolding entry_of
cells-many w i = length-tab (cells_of w i) _

body-many : (w : List ℕ) (i : ℕ) → length (entry_at w i).body ≡ equations_of w i
unfolding entry_of
body-many w i = length-tab (equations_of w i) _

fresh-many : (w : List ℕ) (i : ℕ) → (entry_at w i).fresh ≡ names_of w i
unfolding entry_of
fresh-many w i = refl

module _ (w : List ℕ) (i a b : ℕ) (s : St) (ruled : Ruled w i) (f : Pairing a b s) (room : Room (entry_at w i) s) where
  abbrev l₁ : List ℕ
  l₁ = Step.freed a b s.symbols

  abbrev la : List ℕ
  la = s.arguments

  -- the new names and the new cells
  abbrev N : List ℕ
  N = lowest 0 (names_of w i) s.names

  abbrev A : List ℕ
  A = lowest 0 (cells_of w i) l₁

  size₁ : length l₁ ≡ cells_max
  size₁ = emptied-size a b s f

  used₁ : used l₁ + 2 ≡ used s.symbols
  used₁ = emptied-used a b s f

  names-many : length N ≡ names_of w i
  names-many = as_many (names_of w i) s.names (omega (arith, room.1, fresh-many w i, f.names))

  new_many : length A ≡ cells_of w i
  new_many = as_many (cells_of w i) l₁ (omega (arith, room.0, cells-many w i, used₁, size₁))

  module _ (x : St) (ex : x ≡ freed b (freed a s)) where
    pub room_left : RoomFor w i x
    room_left =
        rw (ex ∙ opened_is a b s)
        (record {
          symbols = size₁;
          names = f.names;
          cells_room = omega (arith, room.0, cells-many w i, used₁);
          names_room = omega (arith, room.1, fresh-many w i);
        })

    pub waits-fit : (z : St) → z ≡ taken_both w i x → z.waiting.used + equations_of w i ≤ waiting_max
    unfolding taken_both taken_on
    waits-fit z ez = rw (ez, ex ∙ opened_is a b s) (omega (arith, room.2, body-many w i))

    module _ (F₁ F : List ℕ) (e₁ : F₁ ≡ opened a b s (zeros frame_size)) (e₂ : F ≡ entered_both w i x F₁) where
      frame_is : F ≡ full (four a la) (four b la) N A
      unfolding opened entered_both entered taken_on
      frame_is = rw (e₂, e₁, ex ∙ opened_is a b s)

      pub cells_in : CellsIn w i F
      cells_in = record {
        inside = λ m h.
            rw frame_is
            (omega (
              arith,
              cell-number (four a la) (four b la) N A refl refl (omega (arith, names-many, ruled.names)) (omega
                  (arith, new_many, ruled.cells)) m (omega (arith, new_many)),
              (all_free (cells_of w i) l₁ m (omega (arith, new_many))).0,
              size₁,
            ));
      }

      module _ (z v : St) (ez : z ≡ taken_both w i x) (ev : v ≡ built w i F z) where
        -- the state after an interaction, by what the frame holds
        after : List ℕ → List ℕ → List ℕ → List ℕ → St
        after p q n c =
            puts
            (map (inst_pair (λ z. side (get_or (p ++ (q ++ map (λ x. 2 * x) n)) z 0)) (λ m. get_or c m 0)) (entry_at w i).body)
            (st
            (write_symbols c (map (inst_cell (λ z. side (get_or (p ++ (q ++ map (λ x. 2 * x) n)) z 0)) (λ m. get_or c m
            0)) (entry_at w i).cells) l₁)
            (write_arguments
            c
            (map (inst_cell (λ z. side (get_or (p ++ (q ++ map (λ x. 2 * x) n)) z 0)) (λ m. get_or c m 0)) (entry_at w i).cells)
            (zero_cell b (zero_cell a la)))
            (set_bare n s.names)
            s.waiting
            s.stuck
            s.face
            s.loops)

        model_is : fired (entry_at w i) a b s ≡ after (four a la) (four b la) N A
        unfolding after
        model_is =
            ap₂
            (λ p q. after p q (lowest 0 (entry_at w i).fresh s.names) (lowest 0 (length (entry_at w i).cells) l₁))
            (quad-four la a (omega (arith, first_inside a b s f, f.arguments)))
            (quad-four la b (omega (arith, second-inside a b s f, f.arguments)))
            ∙ ap₂ (λ n m. after (four a la) (four b la) (lowest 0 n s.names) (lowest 0 m l₁)) (fresh-many w i) (cells-many w i)

        code_is : v ≡ after (four a la) (four b la) N A
        unfolding after built put_from argued_on taken_both taken_on
        code_is =
            rw (ev, ez, ex ∙ opened_is a b s, frame_is)
            (rw (
              bare_is N s.names 0,
              symbols-are w i ruled (four a la) (four b la) N A refl refl names-many new_many l₁,
              arguments-are w i ruled (four a la) (four b la) N A refl refl names-many new_many (zero_cell b (zero_cell a la)),
              ← body_is w i ruled (four a la) (four b la) N A refl refl names-many new_many,
            ))

        pub fire_way : v ≡ fired (entry_at w i) a b s
        fire_way = code_is ∙ sym model_is

        pub right_way : (r : Kept) → Right r z → Right r v
        unfolding built put_from argued_on
        right_way r h = rw ev (record {
          cells = h.cells;
          names = h.names;
          cells_taken = h.cells_taken;
          names_taken
              = h.names_taken;
          cells_fit = h.cells_fit;
          names_fit = h.names_fit;
        })
