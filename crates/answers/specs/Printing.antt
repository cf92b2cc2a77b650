-- The printer as the code goes: bytes, the numbers of the names in an array, and the cells not yet met.
use Rattle.std.specs.Prelude.{◌≡◌, List, [], ◌∷◌, ◌++◌, ℕ, zero, suc, ◌≤◌, length, get_or, set}
use Rattle.parts.specs.Limits.{names_max}
use Rattle.parts.specs.Sides.{Side, name, cell, Pair, ◌:=◌}
use Rattle.model.specs.State.{St, Bond, free, bare, to, bond, used, zeros, listed}
use Rattle.model.specs.Table.{Cell, Table}
use Rattle.model.specs.Sound.{mem_of, sides}
use Rattle.texts.specs.Bytes.{Word}
use Rattle.texts.specs.Books.{Agent, word_face, word_eq}
use Rattle.answers.specs.Text.{spelling, numeral}

-- The next number; of each name 0 where it has no number yet, k + 1 where it is printed `_k`; and the cells not yet
-- met.
pub record Pen : Type 0 where
  pub next : ℕ
  pub numbers : List ℕ
  pub left : ℕ

abbrev pub pen : ℕ → List ℕ → ℕ → Pen
pen n l k = record { next = n; numbers = l; left = k }

-- The array has a place for each name, and no more numbers were given than names have one: so a number is below the
-- names that there are.
pub record Fits (P : Pen) : Type 0 where
  pub long : length P.numbers ≡ names_max
  pub few : P.next ≤ used P.numbers

-- What a call writes, and the pen after it.
pub record Written : Type 0 where
  pub bytes : List ℕ
  pub after : Pen

abbrev pub written : List ℕ → Pen → Written
written b P = record { bytes = b; after = P }

-- A name takes the next number; two joined names take it both.
unfoldable pub numbered : ℕ → Pen → Pen
numbered x P = pen (suc P.next) (set P.numbers x (suc P.next)) P.left

unfoldable pub numbered_both : ℕ → ℕ → Pen → Pen
numbered_both x y P = pen (suc P.next) (set (set P.numbers x (suc P.next)) y (suc P.next)) P.left

-- One byte in front; one thing written after another; a closing bracket, if one was opened.
abbrev pub behind : ℕ → Written → Written
behind b w = written (b ∷ w.bytes) w.after

abbrev pub both : Written → Written → Written
both v w = written (v.bytes ++ w.bytes) w.after

abbrev pub close : List Side → List ℕ
close [] = []
close (s ∷ ss) = 41 ∷ []

module _ (ags : List Agent) (T : Table) (s : St) where
  -- A name, by its number v and its bond, where it is known how a cell is written.
  abbrev pub name_by : (ℕ → Pen → Written) → ℕ → Pen → ℕ → Bond → Written
  name_by at x P (suc k) b = written (numeral k) P
  name_by at x P zero free = written (numeral P.next) (numbered x P)
  name_by at x P zero bare = written (numeral P.next) (numbered x P)
  name_by at x P zero (to (name y)) = written (numeral P.next) (numbered_both x y P)
  name_by at x P zero (to (cell c)) = at c P

  abbrev pub side_by : (ℕ → Pen → Written) → Side → Pen → Written
  side_by at (name x) P = name_by at x P (get_or P.numbers x 0) (bond (get_or s.names x 0))
  side_by at (cell c) P = at c P

  -- Some sides, the byte f before the first and the byte g before each other.
  abbrev pub sides_by : (ℕ → Pen → Written) → ℕ → ℕ → List Side → Pen → Written
  sides_by at f g [] P = written [] P
  sides_by at f g (t ∷ ts) P =
      let v = side_by at t P in both (behind f v) (sides_by at g g ts v.after)

  -- An agent: its spelling, and its arguments in brackets, parted by commas.
  abbrev pub around : ℕ → List Side → Written → Written
  around a ts w = written (spelling ags a ++ (w.bytes ++ close ts)) w.after

  -- A cell, where n cells are not yet met: each cell that is written is one less, and where none is left nothing is
  -- written.
  abbrev pub cell_met : (ℕ → Pen → Written) → Cell → Pen → ℕ → Written
  cell_met at c P zero = written [] P
  cell_met at c P (suc n) =
      around c.symbol c.args (sides_by at 40 44 c.args (pen P.next P.numbers n))

  -- The first number lets the definition call itself, and does not matter as long as it is not below the cells left
  -- (`cell-enough`).
  abbrev pub cell_by : ℕ → ℕ → Pen → Written
  cell_by zero c P = written [] P
  cell_by (suc m) c P = cell_met (cell_by m) (mem_of T s c) P P.left

  -- "The answer printer calls itself on arguments and tied terms, the count of cells not yet met falling." A cell, a
  -- side and some sides with a pen.
  unfoldable pub cell_bytes : ℕ → Pen → Written
  cell_bytes c P = cell_by P.left c P

  unfoldable pub side_bytes : Side → Pen → Written
  side_bytes t P = side_by (cell_by P.left) t P

  unfoldable pub sides_bytes : ℕ → ℕ → List Side → Pen → Written
  sides_bytes f g ts P = sides_by (cell_by P.left) f g ts P

  -- A line: its word, each side after a tab, and newline.
  unfoldable pub line_bytes : Word → List Side → Pen → Written
  line_bytes w ts P = let v = sides_bytes 9 9 ts P in written (w ++ (v.bytes ++ (10 ∷ []))) v.after

  -- One `eq` line for each stuck pair.
  unfoldable pub pairs_bytes : List Pair → Pen → Written
  pairs_bytes [] P = written [] P
  pairs_bytes ((a := b) ∷ l) P =
      let v = line_bytes word_eq (a ∷ b ∷ []) P in both v (pairs_bytes l v.after)

  -- No name has a number, and every cell in use is still to be met.
  unfoldable pub first_pen : Pen
  first_pen = pen 0 (zeros names_max) (used s.symbols)

  unfoldable pub face_written : Written
  face_written = line_bytes word_face (sides s.face) first_pen

  -- "Terms are read from the interface left to right, then the stuck pairs from the head, left side first." The cells
  -- left at the end are the knot.
  unfoldable pub answer_written : Written
  answer_written = both face_written (pairs_bytes (listed s.stuck) face_written.after)
