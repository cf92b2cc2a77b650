-- `row_test::codes::gather` meets its contract.
use Rattle.std.proofs.Common.{arith}
use Rattle.row_test.proofs.Coding.{gathering_none, gathering_room, gathering_more, gathering_end}
use Rattle.row_test.proofs.codes.gather.Goals as goal

pub loop-c-init : goal.loop-c-init
loop-c-init c = gathering_none _ _ _ _ c.args.fit.fits c.from-used.ensures c.put_sides.ensures

pub put_args-requires : goal.put_args-requires
put_args-requires c = gathering_room _ _ _ _ _ _ _ c.args.fit.fits c.loop-c.invariant c.from-c-end.ensures c.loop-c-test.true c.cell_arity-a.ensures

pub overflow_add-used : goal.overflow_add-used
overflow_add-used c = let q = gathering_room _ _ _ _ _ _ _ c.args.fit.fits c.loop-c.invariant c.from-c-end.ensures c.loop-c-test.true c.cell_arity-a.ensures in
    record { fits = omega arith }

pub loop-c-preserved : goal.loop-c-preserved
loop-c-preserved c = gathering_more _ _ _ _ _ _ _ c.args.fit.fits c.loop-c.invariant c.from-c-end.ensures c.loop-c-test.true c.cell_arity-a.ensures _ c.put_args.ensures

pub returns : goal.returns
returns c = gathering_end _ _ _ _ _ _ c.args.fit.fits c.loop-c.invariant c.from-c-end.ensures c.loop-c-test.false
