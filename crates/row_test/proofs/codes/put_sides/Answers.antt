-- `row_test::codes::put_sides` meets its contract.
use Rattle.std.proofs.Common.{arith}
use Rattle.row_test.proofs.Coding.{sides-stored}
use Rattle.row_test.proofs.codes.put_sides.Goals as goal

pub returns : goal.returns
returns c = let s = c in sides-stored _ _ _ _ _ s.from-n.ensures s.copy_from_slice.ensures.after s.told-row s.requires.0 (omega (arith, c.told-list))
