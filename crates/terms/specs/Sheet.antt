-- A lent sheet as a record: what each of its words is, and each way in which one is written.
use Rattle.std.specs.Prelude.{List, ℕ, ◌+◌, ◌*◌, get_or, set}
use Rattle.parts.specs.Limits.{arity_max, net_cells_max, net_names_max}
use Rattle.parts.specs.Segments.{seg}
use Rattle.terms.specs.Layout.{cells_at, names_at, symbols_at, arguments_at, places_at}
use Rattle.terms.specs.declared.sheet.Part.{Part}
use Rattle.terms.specs.declared.sheet.Part.TheVariants.{Symbols, Arguments, Places}

-- How many cells and names there are; of each cell the symbol + 1 and the codes of its arguments; of each name the place in the
-- text where it first stands and its length, 0 where no spelling is meant.
pub record Sheet : Type 0 where
  pub cells : ℕ
  pub names : ℕ
  pub symbols : List ℕ
  pub arguments : List ℕ
  pub places : List ℕ

abbrev pub sheet : ℕ → ℕ → List ℕ → List ℕ → List ℕ → Sheet
sheet c n s a p = record { cells = c; names = n; symbols = s; arguments = a; places = p }

-- What the words of a lent sheet say.
unfoldable pub view : List ℕ → Sheet
view w =
    sheet (get_or w cells_at 0) (get_or w names_at 0) (seg symbols_at net_cells_max w)
    (seg arguments_at (arity_max * net_cells_max) w) (seg places_at (2 * net_names_max) w)

-- The parts by their tag: where each begins, its size, its words.
abbrev pub begins : Part → ℕ
begins Symbols = symbols_at
begins Arguments = arguments_at
begins Places = places_at

abbrev pub size : Part → ℕ
size Symbols = net_cells_max
size Arguments = arity_max * net_cells_max
size Places = 2 * net_names_max

abbrev pub words : Part → Sheet → List ℕ
words Symbols s = s.symbols
words Arguments s = s.arguments
words Places s = s.places

abbrev pub with_words : Part → List ℕ → Sheet → Sheet
with_words Symbols l s = sheet s.cells s.names l s.arguments s.places
with_words Arguments l s = sheet s.cells s.names s.symbols l s.places
with_words Places l s = sheet s.cells s.names s.symbols s.arguments l

-- One word or one count set. These are shut, so that a proof holds one against another by its name.
unfoldable pub stored : Part → ℕ → ℕ → Sheet → Sheet
stored p i v s = with_words p (set (words p s) i v) s

unfoldable pub counted_cells : ℕ → Sheet → Sheet
counted_cells n s = sheet n s.names s.symbols s.arguments s.places

unfoldable pub counted_names : ℕ → Sheet → Sheet
counted_names n s = sheet s.cells n s.symbols s.arguments s.places

-- argument k of cell c has the code v
unfoldable pub argued : ℕ → ℕ → ℕ → Sheet → Sheet
argued c k v s = stored Arguments (arity_max * c + k) v s

-- cell c, the next one, is of symbol k
unfoldable pub opened : ℕ → ℕ → Sheet → Sheet
opened c k s = counted_cells (c + 1) (stored Symbols c (k + 1) s)

-- name x, the next one, stands at `at` with n bytes
unfoldable pub entered : ℕ → ℕ → ℕ → Sheet → Sheet
entered x at n s = counted_names (x + 1) (stored Places (2 * x + 1) n (stored Places (2 * x) at s))
