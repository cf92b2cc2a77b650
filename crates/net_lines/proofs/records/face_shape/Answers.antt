-- `net_lines::records::face_shape` meets its contract.
use Rattle.std.proofs.Common.{rules}
use Rattle.net_lines.specs.Proofs.Shapes.{face_form}
use Rattle.net_lines.proofs.records.face_shape.Goals as goal

pub returns : goal.returns
returns c = search (rules, face_form)
