-- What a read finds and a store changes in the view of a lent state.
use Prim.Native.Nat.{ℕ, ◌+◌, ◌-◌, ◌*◌, ◌/◌, ◌%◌, ◌<◌, ◌≤◌}
use mathlib.Core.Path.{◌≡◌, refl, sym, ◌∙◌}
use mathlib.Core.List.{List}
use native.Mathlib.Omega.{arith}
use native.Mathlib.Nat.{div-add-mod'}
use lib.ListN.{length, length-set, length-take, length-drop, get_or, set, take, drop}
use lib.Seq.{get_or-set_same}
use Rattle.parts.specs.Limits.{arity_max, cells_max, names_max, waiting_max, stuck_max, face_max}
use Rattle.parts.specs.Segments.{seg}
use Rattle.parts.specs.SegmentLaws.{seg_get, seg-set, seg-behind, seg-count, seg_before, count-seg, count-count}
use Rattle.state.specs.Layout.{loops_at, symbols_at, arguments_at, names_at, waiting_at, stuck_at, face_at, state_size, view}
use Rattle.state.specs.Places.{begins, size, words, stored, counted_at, pile, counted, looped}
use Rattle.state.specs.declared.Part.{Part}
use Rattle.state.specs.declared.Part.TheVariants.{Symbols, Arguments, Names, Waiting, Stuck, Face}
use Rattle.state.specs.declared.Pile.{Pile}
use Rattle.state.specs.declared.Pile.TheVariants.{Waits, Stucks, Faces}

ruleset apart = (seg-set, seg-behind, count-seg)

ruleset counts = (seg-count, count-count)

store : (p : Part) (w : List ℕ) (i v : ℕ) → i < size p → view (set w (begins p + i) v) ≡ stored p i v (view w)
unfolding view stored
store Symbols w i v h = simp (apart, seg_before h)
store Arguments w i v h = simp (apart, seg_before h)
store Names w i v h = simp (apart, seg_before h)
store Waiting w i v h = simp (apart, seg_before h)
store Stuck w i v h = simp (apart, seg_before h)
store Face w i v h = simp apart

fetch : (p : Part) (w : List ℕ) (i : ℕ) → i < size p → get_or w (begins p + i) 0 ≡ get_or (words p (view w)) i 0
unfolding view
fetch Symbols w i h = sym (seg_get symbols_at cells_max w i h)
fetch Arguments w i h = sym (seg_get arguments_at (arity_max * cells_max) w i h)
fetch Names w i h = sym (seg_get names_at names_max w i h)
fetch Waiting w i h = sym (seg_get waiting_at (2 * waiting_max) w i h)
fetch Stuck w i h = sym (seg_get stuck_at (2 * stuck_max) w i h)
fetch Face w i h = sym (seg_get face_at face_max w i h)

-- The words of a part lie one after another.
parts_lie : (p : Part) (w : List ℕ) → seg (begins p) (size p) w ≡ words p (view w)
unfolding view
parts_lie Symbols w = refl
parts_lie Arguments w = refl
parts_lie Names w = refl
parts_lie Waiting w = refl
parts_lie Stuck w = refl
parts_lie Face w = refl

pub part_way : (p : Part) (w : List ℕ) (a n : ℕ) → a ≡ begins p → n ≡ size p → take (a + n - a) (drop a w) ≡ words p (view w)
unfolding seg
part_way p w a n ea en = let e : a + n - a ≡ n = omega arith in rw (e, ea, en) (parts_lie p w)

-- A part, at the number where it was found to begin.
module _ (p : Part) (a i : ℕ) (e : a ≡ begins p) (h : i < size p) where
  pub store_way : (w : List ℕ) (v : ℕ) → view (set w (a + i) v) ≡ stored p i v (view w)
  store_way w v = rw e (store p w i v h)

  pub fetch_way : (w : List ℕ) → get_or w (a + i) 0 ≡ get_or (words p (view w)) i 0
  fetch_way w = rw e (fetch p w i h)

store-count : (p : Pile) (w : List ℕ) (n : ℕ) → length w ≡ state_size → view (set w (counted_at p) n) ≡ counted p n (view w)
unfolding view counted
store-count Waits w n h = simp (counts, get_or-set_same w (counted_at Waits) n 0 (omega arith))
store-count Stucks w n h = simp (counts, get_or-set_same w (counted_at Stucks) n 0 (omega arith))
store-count Faces w n h = simp (counts, get_or-set_same w (counted_at Faces) n 0 (omega arith))

fetch_count : (p : Pile) (w : List ℕ) → get_or w (counted_at p) 0 ≡ (pile p (view w)).used
unfolding view
fetch_count Waits w = refl
fetch_count Stucks w = refl
fetch_count Faces w = refl

-- A count, at the number where it was found to stand.
module _ (p : Pile) (a : ℕ) (e : a ≡ counted_at p) where
  pub store-count_way : (w : List ℕ) (n : ℕ) → length w ≡ state_size → view (set w a n) ≡ counted p n (view w)
  store-count_way w n h = rw e (store-count p w n h)

  pub fetch_count_way : (w : List ℕ) → get_or w a 0 ≡ (pile p (view w)).used
  fetch_count_way w = rw e (fetch_count p w)

store-loops : (w : List ℕ) (v u : ℕ) → length w ≡ state_size → view (set (set w loops_at v) (loops_at + 1) u) ≡ looped (v + 65536 * u) (view w)
unfolding view looped
store-loops w v u h =
    let l : loops_at + 1 < length (set w loops_at v) = simp length-set (omega arith) in
    simp (counts, get_or-set_same w loops_at v 0 (omega arith), get_or-set_same (set w loops_at v) (loops_at + 1) u 0 l)

pub store-loops_way : (w : List ℕ) (n : ℕ) → length w ≡ state_size
    → view (set (set w loops_at (n % 65536)) (loops_at + 1) (n / 65536)) ≡ looped n (view w)
store-loops_way w n h =
    let e : n % 65536 + 65536 * (n / 65536) ≡ n = omega (arith, div-add-mod' n 65536) in
    store-loops w (n % 65536) (n / 65536) h ∙ rw e

-- a part of a whole state is as long as its size
pub part_long : (p : Part) (w : List ℕ) → length w ≡ state_size → size p ≤ length (words p (view w))
unfolding view seg
part_long Symbols w h = omega (arith, length-take cells_max (drop symbols_at w), length-drop symbols_at w)
part_long Arguments w h = omega (arith, length-take (arity_max * cells_max) (drop arguments_at w), length-drop arguments_at w)
part_long Names w h = omega (arith, length-take names_max (drop names_at w), length-drop names_at w)
part_long Waiting w h = omega (arith, length-take (2 * waiting_max) (drop waiting_at w), length-drop waiting_at w)
part_long Stuck w h = omega (arith, length-take (2 * stuck_max) (drop stuck_at w), length-drop stuck_at w)
part_long Face w h = omega (arith, length-take face_max (drop face_at w), length-drop face_at w)

pub part_begins : (p : Part) (w ws : List ℕ) (from : ℕ) → length w ≡ state_size → ws ≡ words p (view w) → from ≤ size p → from ≤ length ws
part_begins p w ws from h e f = rw e (omega (arith, part_long p w h))
