-- Sums of the reader that fit.
use Rattle.std.specs.Prelude.{ℕ, ◌+◌, ◌≡◌, List, length, Option, Some, Result, Ok}
use Rattle.std.proofs.Common.{arith, Fits, w64}
use Rattle.parts.specs.declared.faults.Fault.{Fault}
use Rattle.scan.specs.Cutting.{next_line}
use Rattle.nets.specs.Proofs.Stepping.{ended-next}

pub next_fits : (text : List ℕ) (at : ℕ) (r : Result (Option ℕ) Fault) (e : ℕ) → r ≡ next_line text at → r ≡ Ok (Some e) → Fits w64 (length text) → Fits w64 (e + 1)
next_fits text at r e er h z = let l = ended-next text at r er e h in omega (arith, l, z)
