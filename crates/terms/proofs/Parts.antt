-- What a store into a lent sheet does to its view. Assumes nothing.
use Rattle.std.specs.Prelude.{ℕ, ◌+◌, ◌*◌, ◌<◌, ◌≡◌, List, length, get_or, set}
use Rattle.std.proofs.Common.{sym, arith, get_or-set_same}
use Rattle.parts.specs.Limits.{arity_max, net_cells_max, net_names_max}
use Rattle.parts.specs.SegmentLaws.{seg_get, seg-set, seg-behind, seg-count, seg_before, count-seg, count-count}
use Rattle.terms.specs.Layout.{cells_at, names_at, symbols_at, arguments_at, places_at, sheet_size}
use Rattle.terms.specs.Sheet.{view, begins, size, words, stored, counted_cells, counted_names}
use Rattle.terms.specs.declared.sheet.Part.{Part}
use Rattle.terms.specs.declared.sheet.Part.TheVariants.{Symbols, Arguments, Places}

ruleset apart = (seg-set, seg-behind, count-seg)

ruleset counts = (seg-count, count-count)

store : (p : Part) (w : List ℕ) (i v : ℕ) → i < size p → view (set w (begins p + i) v) ≡ stored p i v (view w)
unfolding view stored
store Symbols w i v h = simp (apart, seg_before h)
store Arguments w i v h = simp (apart, seg_before h)
store Places w i v h = simp apart

fetch : (p : Part) (w : List ℕ) (i : ℕ) → i < size p → get_or w (begins p + i) 0 ≡ get_or (words p (view w)) i 0
unfolding view
fetch Symbols w i h = sym (seg_get symbols_at net_cells_max w i h)
fetch Arguments w i h = sym (seg_get arguments_at (arity_max * net_cells_max) w i h)
fetch Places w i h = sym (seg_get places_at (2 * net_names_max) w i h)

-- at the number that was found
module _ (p : Part) (a i : ℕ) (e : a ≡ begins p) (h : i < size p) where
  pub store_way : (w : List ℕ) (v : ℕ) → view (set w (a + i) v) ≡ stored p i v (view w)
  store_way w v = rw e (store p w i v h)

  pub fetch_way : (w : List ℕ) → get_or w (a + i) 0 ≡ get_or (words p (view w)) i 0
  fetch_way w = rw e (fetch p w i h)

pub view_cells : (w : List ℕ) (v : ℕ) → length w ≡ sheet_size → view (set w cells_at v) ≡ counted_cells v (view w)
unfolding view counted_cells
view_cells w v h = simp (counts, get_or-set_same w cells_at v 0 (omega arith))

pub view_names : (w : List ℕ) (v : ℕ) → length w ≡ sheet_size → view (set w names_at v) ≡ counted_names v (view w)
unfolding view counted_names
view_names w v h = simp (counts, get_or-set_same w names_at v 0 (omega arith))
