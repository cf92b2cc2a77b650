-- The view of a lent sheet: its sizes, and that it tells every word. Assumes nothing.
use Rattle.std.specs.Prelude.{ℕ, ◌+◌, ◌*◌, ◌≤◌, ◌≡◌, refl, List, [], length, get_or, drop}
use Rattle.std.proofs.Common.{ap, arith, length-drop, length-take-le}
use Rattle.parts.specs.Limits.{arity_max, net_cells_max, net_names_max}
use Rattle.parts.specs.Segments.{seg}
use Rattle.parts.specs.SegmentLaws.{Agree, agree_none, agree-part, agree-word, agree_all}
use Rattle.terms.specs.Layout.{cells_at, names_at, symbols_at, arguments_at, places_at, sheet_size}
use Rattle.terms.specs.Sheet.{view}
use Rattle.terms.specs.Words.{entries_from, entries}
use Rattle.terms.specs.Meaning.{Sized, CellsAre, Narrow, Holds}

-- a part that lies within the array is full
seg-full : (at n : ℕ) (w : List ℕ) → at + n ≤ length w → length (seg at n w) ≡ n
unfolding seg
seg-full at n w h = length-take-le n (drop at w) (omega (arith, length-drop at w))

pub sized-view : (w : List ℕ) → length w ≡ sheet_size → Sized (view w)
unfolding view
sized-view w h = record {
  symbols = seg-full symbols_at net_cells_max w (omega arith);
  arguments = seg-full arguments_at (arity_max * net_cells_max) w (omega arith);
  places = seg-full places_at (2 * net_names_max) w (omega arith);
}

pub holds-nothing : (text w : List ℕ) → length w ≡ sheet_size → get_or w cells_at 0 ≡ 0 → get_or w names_at 0 ≡ 0
    → Holds text (view w) [] []
unfolding view CellsAre Narrow entries entries_from
holds-nothing text w h c n = record { sized = sized-view w h; count = c; cells = tt; narrow = tt; names = record { count = n; spelt = refl } }

module _ (v w : List ℕ) where
  agree : view v ≡ view w → Agree v w sheet_size
  unfolding view
  agree e =
      let a₁ = agree-word v w cells_at (agree_none v w) (ap (λ s. s.cells) e) in
      let a₂ = agree-word v w names_at a₁ (ap (λ s. s.names) e) in
      let a₃ = agree-part v w symbols_at net_cells_max a₂ (ap (λ s. s.symbols) e) in
      let a₄ = agree-part v w arguments_at (arity_max * net_cells_max) a₃ (ap (λ s. s.arguments) e) in
      agree-part v w places_at (2 * net_names_max) a₄ (ap (λ s. s.places) e)

  pub view_tells : length v ≡ sheet_size → length w ≡ sheet_size → view v ≡ view w → v ≡ w
  view_tells hv hw e = agree_all v w sheet_size hv hw (agree e)
