-- `row_test::codes::put_args` meets its contract.
use Rattle.std.proofs.Common.{arith}
use Rattle.row_test.proofs.Coding.{args-stored}
use Rattle.row_test.proofs.codes.put_args.Goals as goal

pub returns : goal.returns
returns c = let s = c in args-stored _ _ _ _ _ _ s.copy_from_slice.ensures.after s.told-row s.requires.0 s.requires.1 (omega (arith, c.told-list))
