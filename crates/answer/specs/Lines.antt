-- What the printer of lines asks and promises.
use Rattle.std.proofs.Common.{◌≡◌, List, [], ◌∷◌, ◌++◌, ℕ, ◌+◌, ◌*◌, length, get_or}
use Rattle.std.proofs.lemmas.List.Edits.{sets}
use Rattle.parts.specs.Limits.{face_max}
use Rattle.parts.specs.Sides.{Side, side}
use Rattle.model.specs.State.{St, unpack, used}
use Rattle.model.specs.Sound.{sides}
use Rattle.texts.specs.Books.{word_face, word_eq}
use Rattle.table.specs.Layout.{agents_in}
use Rattle.state.specs.Layout.{view}
use Rattle.sound.specs.Lent.{under}
use Rattle.answers.specs.Printing.{Written, written, sides_bytes, line_bytes, pairs_bytes, answer_written}
use Rattle.printing.specs.Puts.{name_long}
use Rattle.printing.specs.Prints.{held}
use Rattle.printing.specs.declared.terms.Cursor.{Cursor}

-- How long a line can be beside its cells: n sides and newline, with the word of the `face` line and of an `eq` line.
abbrev pub tail_long : ℕ → ℕ
tail_long n = (1 + name_long) * n + 1

abbrev pub face_long : ℕ
face_long = length word_face + tail_long face_max

abbrev pub pair_long : ℕ
pair_long = length word_eq + tail_long 2

module _ (w v : List ℕ) where
  unfoldable pub tail_of : List Side → Cursor → List ℕ → Written
  tail_of ts k ns =
      let u = sides_bytes (agents_in w) (under w) (view v) 9 9 ts (held k ns) in written (u.bytes ++ (10 ∷ [])) u.after

  abbrev pub face_of : Cursor → List ℕ → Written
  face_of k ns = line_bytes (agents_in w) (under w) (view v) word_face (sides (view v).face) (held k ns)

  -- Pair number i from the start of the list, and the first n, the last of these first.
  abbrev pub pair_of : ℕ → Cursor → List ℕ → Written
  pair_of i k ns =
      line_bytes
      (agents_in w)
      (under w)
      (view v)
      word_eq
      (side (get_or (view v).stuck.words (2 * i) 0) ∷ side (get_or (view v).stuck.words (1 + 2 * i) 0) ∷ [])
      (held k ns)

  abbrev pub pairs_of : ℕ → Cursor → List ℕ → Written
  pairs_of n k ns = pairs_bytes (agents_in w) (under w) (view v) (unpack n (view v).stuck.words) (held k ns)

-- The first place, the first number, and every cell in use left to be met.
pub record First (s : St) (k : Cursor) : Type 0 where
  pub at : k.at ≡ 0
  pub next : k.next ≡ 0
  pub left : k.left ≡ used s.symbols

-- The lines of the answer, as far as the output has places, and the knot.
pub record Answers (w v o : List ℕ) (r : Cursor) (o' : List ℕ) : Type 0 where
  pub place : r.at ≡ length (answer_written (agents_in w) (under w) (view v)).bytes
  pub bytes : o' ≡ sets o 0 (answer_written (agents_in w) (under w) (view v)).bytes
  pub knot : r.left ≡ (answer_written (agents_in w) (under w) (view v)).after.left
