-- The sizes of a lent state: its lengths are those of the array, and so the counts decide.
use Rattle.std.specs.Prelude.{◌≡◌, true, ◌&&◌, List, ℕ, leb, eqb, length}
use Rattle.parts.specs.Limits.{waiting_max, stuck_max, face_max, loops_max}
use Rattle.model.specs.Test.{sized}
use Rattle.state.specs.Layout.{state_size, view}
use Rattle.state.specs.Places.{size, words}
use Rattle.state.specs.declared.Part.{Part}
use Rattle.state.specs.declared.Part.TheVariants.{Symbols, Arguments, Names, Waiting, Stuck, Face}
use Rattle.sound.proofs.Places.{part_full}
use Rattle.std.proofs.Common.{eq-eqb}

pub counts_decide : (w : List ℕ) → length w ≡ state_size
    → sized (view w)
    ≡ (leb (view w).waiting.used waiting_max
    && (leb (view w).stuck.used stuck_max && (leb (view w).face.used face_max && leb (view w).loops loops_max)))
unfolding sized
counts_decide w h = rw (full Symbols, full Arguments, full Names, full Waiting, full Stuck, full Face)
  where
    full : (p : Part) → eqb (length (words p (view w))) (size p) ≡ true
    full p = eq-eqb _ _ (part_full p w h)
