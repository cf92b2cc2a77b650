-- What stands on a sheet after a cell is opened, an argument set or a name entered. Assumes nothing.
use Rattle.std.specs.Prelude.{ℕ, suc, ◌+◌, ◌*◌, ◌<◌, ◌≤◌, ◌≡◌, List, [], ◌∷◌, ◌++◌, get_or, set, take, drop, refl, length}
use Rattle.std.proofs.Common.{◌∙◌, get_or-set_other, arith, length-set, length-append, get_or-set_same}
use Rattle.parts.specs.Limits.{arity_max, net_cells_max, net_names_max}
use Rattle.texts.specs.Bytes.{Word}
use Rattle.model.specs.Table.{Cell}
use Rattle.terms.specs.Sheet.{Sheet, stored, counted_cells, counted_names, argued, opened, entered}
use Rattle.terms.specs.Words.{entry, entries}
use Rattle.terms.specs.Meaning.{Sized, CellIs, CellsAre, Narrow, Named}
use Rattle.terms.proofs.Beneath.Numbers.{entries-kept, entries_more}

-- the words of two lists from a number up to another
abbrev pub Same : List ℕ → List ℕ → ℕ → ℕ → Type 0
Same p q a b = (i : ℕ) → a ≤ i → i < b → get_or q i 0 ≡ get_or p i 0

pub same_join : (p q r : List ℕ) (a b : ℕ) → Same p q a b → Same q r a b → Same p r a b
same_join p q r a b h k i l m = k i l m ∙ h i l m

pub same_set : (p : List ℕ) (j v a b : ℕ) → ((i : ℕ) → a ≤ i → i < b → i ≡ j → ⊥) → Same p (set p j v) a b
same_set p j v a b h i l m = get_or-set_other p j i v 0 (h i l m)

-- cells that a change does not reach stay
cell-kept : (s t : Sheet) (i : ℕ) (c : Cell) → length c.args ≤ arity_max
    → get_or t.symbols i 0 ≡ get_or s.symbols i 0
    → Same s.arguments t.arguments (arity_max * i) (arity_max * suc i) → CellIs s i c → CellIs t i c
cell-kept s t i c n h k d = record { symbol = h ∙ d.symbol; args = λ j l. k (arity_max * i + j) (omega arith) (omega arith) ∙ d.args j l }

pub narrow-append : (cs ds : List Cell) → Narrow cs → Narrow ds → Narrow (cs ++ ds)
unfolding Narrow
narrow-append [] ds h k = k
narrow-append (c ∷ cs) ds h k = (h.0, narrow-append cs ds h.1 k)

pub cells-kept : (s t : Sheet) (i b : ℕ) (cs : List Cell) → Narrow cs → i + length cs ≤ b
    → Same s.symbols t.symbols i b → Same s.arguments t.arguments (arity_max * i) (arity_max * b)
    → CellsAre s i cs → CellsAre t i cs
unfolding CellsAre Narrow
cells-kept s t i b [] n l h k d = tt
cells-kept s t i b (c ∷ cs) n l h k d = (
  cell-kept s t i c n.0 (h i (omega arith) (omega arith)) (λ j p q. k j p (omega arith)) d.0,
  cells-kept s t (suc i) b cs n.1 (omega arith) (λ j p q. h j (omega arith) q) (λ j p q. k j (omega arith) q) d.1,
)

pub cells-append : (s : Sheet) (i : ℕ) (cs ds : List Cell) → CellsAre s i cs → CellsAre s (i + length cs) ds
    → CellsAre s i (cs ++ ds)
unfolding CellsAre
cells-append s i [] ds h k = let z : i + 0 ≡ i = omega arith in rw z at k
cells-append s i (c ∷ cs) ds h k = let z : i + suc (length cs) ≡ suc i + length cs = omega arith in (h.0, cells-append s (suc i) cs ds h.1 (rw z at k))

-- a cell opened
module _ (s : Sheet) (c k : ℕ) (z : Sized s) (room : c < net_cells_max) where
  pub opened-sized : Sized (opened c k s)
  unfolding opened counted_cells stored
  opened-sized = record { symbols = simp length-set z.symbols; arguments = z.arguments; places = z.places }

  pub opened-count : (opened c k s).cells ≡ c + 1
  unfolding opened counted_cells stored
  opened-count = refl

  pub opened-symbol : get_or (opened c k s).symbols c 0 ≡ k + 1
  unfolding opened counted_cells stored
  opened-symbol = get_or-set_same s.symbols c (k + 1) 0 (omega (arith, z.symbols))

  pub opened_before : Same s.symbols (opened c k s).symbols 0 c
  unfolding opened counted_cells stored
  opened_before = same_set s.symbols c (k + 1) 0 c (λ i l m e. omega arith)

  pub opened-arguments : (opened c k s).arguments ≡ s.arguments
  unfolding opened counted_cells stored
  opened-arguments = refl

  pub opened-named : (text : List ℕ) (ws : List Word) → Named text s ws → Named text (opened c k s) ws
  unfolding opened counted_cells stored
  opened-named text ws n = record { count = n.count; spelt = n.spelt }

-- an argument set
module _ (s : Sheet) (c k v : ℕ) (z : Sized s) (room : arity_max * c + k < arity_max * net_cells_max) where
  pub argued-sized : Sized (argued c k v s)
  unfolding argued stored
  argued-sized = record { symbols = z.symbols; arguments = simp length-set z.arguments; places = z.places }

  pub argued-count : (argued c k v s).cells ≡ s.cells
  unfolding argued stored
  argued-count = refl

  pub argued-symbols : (argued c k v s).symbols ≡ s.symbols
  unfolding argued stored
  argued-symbols = refl

  pub argued_here : get_or (argued c k v s).arguments (arity_max * c + k) 0 ≡ v
  unfolding argued stored
  argued_here = get_or-set_same s.arguments (arity_max * c + k) v 0 (omega (arith, z.arguments))

  pub argued_other : (a b : ℕ) → ((i : ℕ) → a ≤ i → i < b → i ≡ arity_max * c + k → ⊥)
      → Same s.arguments (argued c k v s).arguments a b
  unfolding argued stored
  argued_other a b h = same_set s.arguments (arity_max * c + k) v a b h

  pub argued-named : (text : List ℕ) (ws : List Word) → Named text s ws → Named text (argued c k v s) ws
  unfolding argued stored
  argued-named text ws n = record { count = n.count; spelt = n.spelt }

-- a name entered
module _
    (text : List ℕ) (s : Sheet) (ws : List Word) (at long : ℕ) (z : Sized s) (n : Named text s ws) (room : length ws < net_names_max) where
  pub entered-sized : Sized (entered s.names at long s)
  unfolding entered counted_names stored
  entered-sized = record { symbols = z.symbols; arguments = z.arguments; places = simp length-set z.places }

  pub entered-count : (entered s.names at long s).cells ≡ s.cells
  unfolding entered counted_names stored
  entered-count = refl

  pub entered-symbols : (entered s.names at long s).symbols ≡ s.symbols
  unfolding entered counted_names stored
  entered-symbols = refl

  pub entered-arguments : (entered s.names at long s).arguments ≡ s.arguments
  unfolding entered counted_names stored
  entered-arguments = refl

  abbrev q : List ℕ
  q = set (set s.places (2 * length ws) at) (2 * length ws + 1) long

  place_here : get_or q (2 * length ws) 0 ≡ at
  place_here =
      get_or-set_other (set s.places (2 * length ws) at) (2 * length ws + 1) (2 * length ws) long 0 (λ e. omega arith)
      ∙ get_or-set_same s.places (2 * length ws) at 0 (omega (arith, z.places))

  long_here : get_or q (2 * length ws + 1) 0 ≡ long
  long_here =
      get_or-set_same (set s.places (2 * length ws) at) (2 * length ws + 1) long 0 (omega (arith, z.places, length-set s.places (2 * length ws) at))

  places-kept : (i : ℕ) → i < 2 * (0 + length ws) → get_or q i 0 ≡ get_or s.places i 0
  places-kept i h =
      get_or-set_other (set s.places (2 * length ws) at) (2 * length ws + 1) i long 0 (λ e. omega arith)
      ∙ get_or-set_other s.places (2 * length ws) i at 0 (λ e. omega arith)

  pub entered-named : (w : Word) → take long (drop at text) ≡ w
      → Named text (entered s.names at long s) (ws ++ (w ∷ []))
  unfolding entered counted_names stored entries entry
  entered-named w e =
      let l : length (ws ++ (w ∷ [])) ≡ suc (length ws) = omega (arith, length-append ws (w ∷ [])) in
      let y : 0 + length ws ≡ length ws = omega arith in
      record {
        count = omega (arith, n.count);
        spelt = rw (l, n.count, entries_more text q 0 (length ws), entries-kept text s.places q 0 (length ws) places-kept, n.spelt, y, place_here, long_here, e);
      }
