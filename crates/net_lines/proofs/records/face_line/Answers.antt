-- `net_lines::records::face_line` meets its contract.
use Rattle.std.proofs.Common.{rules, refl}
use Rattle.net_lines.specs.Proofs.Whole.{face-bad, face_5, face_end}
use Rattle.net_lines.proofs.records.face_line.Goals as goal

pub returns-in_err-face_shape-clause-face_read : goal.returns-in_err-face_shape-clause-face_read
returns-in_err-face_shape-clause-face_read c = search (rules, face-bad)

pub returns-then-terms_in-gt-FACE-clause-face_read : goal.returns-then-terms_in-gt-FACE-clause-face_read
returns-then-terms_in-gt-FACE-clause-face_read c = λ st fit d. face_5 _ _ _ _ _ _ _ refl c.in_ok-face_shape.ensures _ c.terms_in.ensures st fit d c.if-terms_in-gt-FACE.true

pub returns-clause-face_read : goal.returns-clause-face_read
returns-clause-face_read c = λ st fit d. face_end _ _ _ _ _ _ _ refl c.in_ok-face_shape.ensures _ c.terms_in.ensures st fit d c.if-terms_in-gt-FACE.false c.judge.ensures
