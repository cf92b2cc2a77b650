-- The reader as the code goes: over cells and the bonds of names, with nothing taken away.
use Rattle.std.specs.Prelude.{[], List, ◌∷◌, ℕ, zero, suc, ◌+◌, ◌-◌, get_or}
use Rattle.calculus.specs.Terms.{Sort, one, many, Tree, var, node, nil, cons}
use Rattle.parts.specs.Sides.{Side, name, cell, Pair, ◌:=◌}
use Rattle.model.specs.Table.{Cell, Table}
use Rattle.model.specs.Sound.{mem_of, sides}
use Rattle.model.specs.State.{St, bond, listed, used, Bond, free, bare, to}
use Rattle.texts.specs.Books.{Agent}
use Rattle.answers.specs.Answer.{agents, Answer, Numbered, Found, unknown, known, find}
use Rattle.answers.specs.Text.{answer_text}

pub record Printer : Type 0 where
  pub next : ℕ
  pub numbers : List Numbered

pub record Printed (s : Sort) : Type 0 where
  pub shown : Tree s
  pub after : Printer

abbrev pub new_number : ℕ → Printer → Printed one
new_number x R =
    record {
      shown = var R.next;
      after = record { next = suc R.next; numbers = record { name = x; number = R.next } ∷ R.numbers };
    }

-- A name by its number or its bond, where it is known how to print a cell.
abbrev pub name_printed : (ℕ → Printer → Printed one) → ℕ → Printer → Found → Bond → Printed one
name_printed at x R (known k) b = record { shown = var k; after = R }
name_printed at x R unknown free = new_number x R
name_printed at x R unknown bare = new_number x R
name_printed at x R unknown (to (name y)) =
    record {
      shown = var R.next;
      after =
          record {
            next = suc R.next;
            numbers = record { name = x; number = R.next } ∷ record { name = y; number = R.next } ∷ R.numbers;
          };
    }
name_printed at x R unknown (to (cell c)) = at c R

abbrev pub side_printed : (ℕ → Bond) → (ℕ → Printer → Printed one) → Side → Printer → Printed one
side_printed bonds at (name x) R = name_printed at x R (find x R.numbers) (bonds x)
side_printed bonds at (cell c) R = at c R

abbrev pub before : Tree one → Printed many → Printed many
before t r = record { shown = cons t r.shown; after = r.after }

abbrev pub sides_printed : (ℕ → Bond) → (ℕ → Printer → Printed one) → List Side → Printer → Printed many
sides_printed bonds at [] R = record { shown = nil; after = R }
sides_printed bonds at (s ∷ ss) R =
    before (side_printed bonds at s R).shown (sides_printed bonds at ss (side_printed bonds at s R).after)

abbrev pub over : ℕ → Printed many → Printed one
over a r = record { shown = node a r.shown; after = r.after }

-- A cell, where so many cells at most are met one within another.
abbrev pub cell_printed : (ℕ → Cell) → (ℕ → Bond) → ℕ → ℕ → Printer → Printed one
cell_printed mem bonds zero c R = record { shown = var 0; after = R }
cell_printed mem bonds (suc n) c R =
    over (mem c).symbol (sides_printed bonds (cell_printed mem bonds n) (mem c).args R)

-- The interface, where no name has a number yet.
abbrev pub face_printed : (ℕ → Cell) → (ℕ → Bond) → ℕ → List Side → Printed many
face_printed mem bonds m face = sides_printed bonds (cell_printed mem bonds m) face (record { next = 0; numbers = [] })

-- Both sides of each pair, in turn.
abbrev pub pair_sides : List Pair → List Side
pair_sides [] = []
pair_sides ((a := b) ∷ l) = a ∷ b ∷ pair_sides l

-- The interface of a state as printed, and from there its stuck pairs, where m cells at most are met one within another.
abbrev pub state_bonds : St → ℕ → Bond
state_bonds s x = bond (get_or s.names x 0)

abbrev pub state_face : Table → St → ℕ → Printed many
state_face T s m = face_printed (mem_of T s) (state_bonds s) m (sides s.face)

abbrev pub state_pairs : Table → St → ℕ → Printed many
state_pairs T s m =
    sides_printed
    (state_bonds s)
    (cell_printed (mem_of T s) (state_bonds s) m)
    (pair_sides (listed s.stuck))
    (state_face T s m).after

-- The answer of an ended state, told of its arrays alone. The knot is the cells in use less those printed.
unfoldable pub state_answer : Table → St → Answer
state_answer T s =
    let m = used s.symbols in
    let face = (state_face T s m).shown in
    let pairs = (state_pairs T s m).shown in
    record {
      face = face;
      pairs = pairs;
      stuck = s.stuck.used;
      loops = s.loops;
      knot = m - (agents face + agents pairs);
    }

-- What is printed of an ended state.
unfoldable pub answer_bytes : List Agent → Table → St → List ℕ
answer_bytes ags T s = answer_text ags (state_answer T s)
