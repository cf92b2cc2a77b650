-- The test of a state passes exactly if the state is sound, if the table is.
use Rattle.std.specs.Prelude.{◌≡◌, true, ◌↔◌}
use Rattle.model.specs.State.{St}
use Rattle.model.specs.Table.{Table}
use Rattle.model.specs.Sound.{Sound}
use Rattle.model.specs.SoundTable.{SoundTable}
use Rattle.model.specs.Test.{tested}
use Rattle.model.proofs.Beneath.Tested.{test_passed, sound-tested}

pub tested-sound : {T : Table} → SoundTable T → (s : St) → (tested T s ≡ true) ↔ Sound T s
tested-sound {T} t s = (test_passed T s, sound-tested T s t)
