-- Where each part of a lent state lies, and the state that its words stand for.
use Rattle.std.specs.Prelude.{List, ℕ, ◌+◌, ◌*◌, get_or}
use Rattle.parts.specs.Limits.{arity_max, cells_max, names_max, waiting_max, stuck_max, face_max}
use Rattle.parts.specs.Segments.{seg}
use Rattle.model.specs.State.{St, st, stack}

-- The counts stand first, a word each, but for that of the loops, which has two, the low one first.
abbrev pub waits_at : ℕ
waits_at = 0

abbrev pub stucks_at : ℕ
stucks_at = 1

abbrev pub faces_at : ℕ
faces_at = 2

abbrev pub loops_at : ℕ
loops_at = 3

abbrev pub symbols_at : ℕ
symbols_at = 5

abbrev pub arguments_at : ℕ
arguments_at = symbols_at + cells_max

abbrev pub names_at : ℕ
names_at = arguments_at + arity_max * cells_max

abbrev pub waiting_at : ℕ
waiting_at = names_at + names_max

abbrev pub stuck_at : ℕ
stuck_at = waiting_at + 2 * waiting_max

abbrev pub face_at : ℕ
face_at = stuck_at + 2 * stuck_max

abbrev pub state_size : ℕ
state_size = face_at + face_max

-- The state that the words of a lent array stand for.
unfoldable pub view : List ℕ → St
view w =
    st
    (seg symbols_at cells_max w)
    (seg arguments_at (arity_max * cells_max) w)
    (seg names_at names_max w)
    (stack (seg waiting_at (2 * waiting_max) w) (get_or w waits_at 0))
    (stack (seg stuck_at (2 * stuck_max) w) (get_or w stucks_at 0))
    (stack (seg face_at face_max w) (get_or w faces_at 0))
    (get_or w loops_at 0 + 65536 * get_or w (loops_at + 1) 0)
