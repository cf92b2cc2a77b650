-- Theorem 6: of an ended state's net, neither Communication nor Interaction applies.
use Rattle.std.specs.Prelude.{◌≡◌}
use Rattle.calculus.specs.Calculus.{Step}
use Rattle.calculus.specs.Descent.{Normal}
use Rattle.model.specs.State.{St}
use Rattle.model.specs.Table.{Table}
use Rattle.model.specs.Sound.{book, Sound, meaning}
use Rattle.model.specs.SoundTable.{SoundTable}
use Rattle.model.proofs.Beneath.Ended.{nothing_applies}

pub ended_normal : {T : Table} → SoundTable T → {s : St} (h : Sound T s) → s.waiting.used ≡ 0
    → Normal (Step (book T)) (meaning h)
ended_normal t {s} h e = nothing_applies t s h e
