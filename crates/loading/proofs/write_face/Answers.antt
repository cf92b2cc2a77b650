-- `loading::write_face` meets its contract.
use Rattle.loading.proofs.Lays.{lay_on, face_end}
use Rattle.std.proofs.Common.{rules}
use Rattle.loading.proofs.write_face.Goals as goal

pub loop-i-preserved : goal.loop-i-preserved
loop-i-preserved c = search (rules, lay_on)

pub returns : goal.returns
returns c = search (rules, face_end)
