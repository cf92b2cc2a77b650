-- Why the counts fit.
use mathlib.Core.Path.{◌≡◌}
use mathlib.Core.List.{List, [], ◌∷◌}
use Prim.Native.Nat.{ℕ, ◌≤◌}
use native.Mathlib.Omega.{arith}
use lib.ListN.{length}
use mir.Syntax.{w16}
use mir.Val.{Fits}
use Rattle.parts.specs.Limits.{cells_max, names_max}
use Rattle.parts.specs.SegmentLaws.{seg-length}
use Rattle.model.specs.State.{used}
use Rattle.state.specs.Layout.{symbols_at, names_at, view}

few-used : (l : List ℕ) → used l ≤ length l
few-used [] = omega arith
few-used (v ∷ l) = omega (arith, few-used l)

pub cells-few : (w : List ℕ) (n : ℕ) → n ≡ used (view w).symbols → Fits w16 n
unfolding view
cells-few w n e = omega (arith, few-used (view w).symbols, seg-length symbols_at cells_max w)

pub names-few : (w : List ℕ) (n : ℕ) → n ≡ used (view w).names → Fits w16 n
unfolding view
names-few w n e = omega (arith, few-used (view w).names, seg-length names_at names_max w)
