-- A well-formed net, as it is loaded, and the configuration that it reads as.
use Rattle.std.specs.Prelude.{◌≡◌, List, ℕ, ◌+◌, ◌*◌, ◌≤◌, ◌<◌, length, get_or}
use Rattle.calculus.specs.Terms.{count, Conf, names, eqs_names}
use Rattle.parts.specs.Limits.{face_max, cells_max, names_max, waiting_max}
use Rattle.model.specs.State.{from}
use Rattle.model.specs.Table.{Table, no_cell}
use Rattle.model.specs.Reading.{Reads, ReadsAll}
use Rattle.model.specs.SoundTable.{Declared}
use Rattle.model.specs.Load.{Net}

-- Each cell is met once and each name occurs twice, and no other; the symbols are declared, with that many arguments;
-- the sizes hold.
pub record NetReads (T : Table) (N : Net) (C : Conf) : Type 0 where
  pub c₀ : List ℕ
  pub c₁ : List ℕ
  pub face : Reads (λ c. get_or N.cells c no_cell) N.face C.face c₀
  pub equations : ReadsAll (λ c. get_or N.cells c no_cell) N.equations C.eqs c₁
  pub once : (c : ℕ) → count c c₀ + count c c₁ ≡ count c (from 0 (length N.cells))
  pub twice : (x : ℕ) → count x (names C.face) + count x (eqs_names C.eqs) ≡ 2 * count x (from 0 N.names)
  pub declared : (c : ℕ) → c < length N.cells → Declared T (get_or N.cells c no_cell)
  pub few_faces : length N.face ≤ face_max
  pub few_equations : length N.equations ≤ waiting_max
  pub few_cells : length N.cells ≤ cells_max
  pub few_names : N.names ≤ names_max
