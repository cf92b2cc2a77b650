-- The loaded state of a net.
use Rattle.std.specs.Prelude.{List, map, ℕ, length}
use Rattle.std.proofs.lemmas.List.Edits.{sets}
use Rattle.parts.specs.Sides.{Side, Pair, code}
use Rattle.model.specs.State.{stack, St, st, empty, pushed_all, from}
use Rattle.model.specs.Table.{Cell}
use Rattle.model.specs.Step.{write_symbols, write_arguments, set_bare}

-- A net: its interface, its equations in text order, its cells and the number of its names. "A loaded net is
-- numbered so from 0, `face` first": the reader of a net text gives the numbers in the order in which it reads.
pub record Net : Type 0 where
  pub face : List Side
  pub equations : List Pair
  pub cells : List Cell
  pub names : ℕ

-- "Its equations wait in text order and the rest is empty."
unfoldable pub loaded : Net → St
loaded N =
    st
    (write_symbols (from 0 (length N.cells)) N.cells empty.symbols)
    (write_arguments (from 0 (length N.cells)) N.cells empty.arguments)
    (set_bare (from 0 N.names) empty.names)
    (stack (pushed_all 0 N.equations empty.waiting.words) (length N.equations))
    empty.stuck
    (stack (sets empty.face.words 0 (map code N.face)) (length N.face))
    0
