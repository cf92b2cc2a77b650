-- Every place of a part of a state fits a machine word, and a lent state has every part in full.
use Rattle.std.specs.Prelude.{◌≡◌, List, ℕ, ◌+◌, ◌*◌, ◌<◌, ◌≤◌, length, drop}
use Rattle.std.proofs.Common.{arith, length-drop, length-take, w64, Fits}
use Rattle.parts.specs.Limits.{arity_max, cells_max, names_max, waiting_max, stuck_max, face_max}
use Rattle.parts.specs.Segments.{seg}
use Rattle.state.specs.Layout.{symbols_at, arguments_at, names_at, waiting_at, stuck_at, face_at, state_size, view}
use Rattle.state.specs.Places.{size, words}
use Rattle.state.specs.declared.Part.{Part}
use Rattle.state.specs.declared.Part.TheVariants.{Symbols, Arguments, Names, Waiting, Stuck, Face}

pub part_small : (p : Part) → size p ≤ state_size
part_small Symbols = omega arith
part_small Arguments = omega arith
part_small Names = omega arith
part_small Waiting = omega arith
part_small Stuck = omega arith
part_small Face = omega arith

pub place-fits : (p : Part) (a : ℕ) → a < size p → Fits w64 a
place-fits p a h = omega (arith, part_small p)

pub seg-full : (at n : ℕ) (w : List ℕ) → at + n ≤ length w → length (seg at n w) ≡ n
unfolding seg
seg-full at n w h = omega (arith, length-take n (drop at w), length-drop at w)

pub part_full : (p : Part) (w : List ℕ) → length w ≡ state_size → length (words p (view w)) ≡ size p
unfolding view
part_full Symbols w h = seg-full symbols_at cells_max w (omega arith)
part_full Arguments w h = seg-full arguments_at (arity_max * cells_max) w (omega arith)
part_full Names w h = seg-full names_at names_max w (omega arith)
part_full Waiting w h = seg-full waiting_at (2 * waiting_max) w (omega arith)
part_full Stuck w h = seg-full stuck_at (2 * stuck_max) w (omega arith)
part_full Face w h = seg-full face_at face_max w (omega arith)
