-- `row_test::walking::entered` meets its contract.
use Rattle.row_test.proofs.Walks.{entered-room, entered_way}
use Rattle.row_test.proofs.walking.entered.Goals as goal

pub put_args-requires : goal.put_args-requires
put_args-requires c = let s = c in entered-room _ _ _ _ _ s.args.fit.fits s.requires.0 s.requires.1 s.requires.2 c.cell_arity-a.ensures

pub returns : goal.returns
returns c = entered_way _ _ _ _ _ _ _ c.cell_arity-a.ensures c.put_args.ensures
