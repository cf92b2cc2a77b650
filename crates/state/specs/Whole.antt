-- The words of a lent state, as `whole` (crates/state/proofs/Whole.antt) speaks of them.
use Rattle.std.specs.Prelude.{ℕ, ◌<◌, List}
use Rattle.std.proofs.Math.ListN.{get_or}

-- Every word fits (past the end stands 0).
abbrev pub Words : List ℕ → Type 0
Words l = (i : ℕ) → get_or l i 0 < 65536
