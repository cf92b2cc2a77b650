-- `nets::rest::read_eqs` meets its contract.
use Rattle.std.proofs.Common.{arith}
use Rattle.nets.specs.Proofs.Going.{going_more, eqs-done, eqs-fault, on}
use Rattle.nets.proofs.rest.read_eqs.Goals as goal

pub loop-next-preserved : goal.loop-next-preserved
loop-next-preserved c = let p = on _ _ _ c.in-Ok-Some.field-0-is c.in-Ok-Some.ensures.moved in
    record {
      within = p.1;
      room = omega (arith, p.2);
      going = λ m fit d ef b. going_more (c.loop-next.invariant.going m fit d ef b) fit ef _ _ _ c.in-Ok-Some.field-0-is c.in-Ok-Some.ensures.stepped;
    }

pub loop-next-smaller : goal.loop-next-smaller
loop-next-smaller c = let p = on _ _ _ c.in-Ok-Some.field-0-is c.in-Ok-Some.ensures.moved in omega (arith, p.0, p.1)

pub returns-in-Ok-None-clause-eqs_read : goal.returns-in-Ok-None-clause-eqs_read
returns-in-Ok-None-clause-eqs_read c = λ m fit d ef b. eqs-done (c.loop-next.invariant.going m fit d ef b) fit ef _ _ _ c.in-Ok-None.field-0-is c.in-Ok-None.ensures.stepped

pub returns-in-Err-clause-eqs_read : goal.returns-in-Err-clause-eqs_read
returns-in-Err-clause-eqs_read c = λ m fit d ef b. eqs-fault (c.loop-next.invariant.going m fit d ef b) fit ef _ _ _ c.in-Err.ensures.stepped
