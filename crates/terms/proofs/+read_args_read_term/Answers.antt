-- `read_args`: the ways out that the search does not find by its laws. Assumes nothing.
use Rattle.std.proofs.Common.{arith}
use Rattle.terms.proofs.Beneath.Heads.{takes-small}
use Rattle.terms.proofs.Beneath.Ways.{args-wrong, args-close, args_other}
use Rattle.terms.proofs.+read_args_read_term.Goals as goal

pub read_args-returns-in_err-next : goal.read_args-returns-in_err-next
read_args-returns-in_err-next t c = args-wrong _ _ _ _ _ _ _ _ c.read_term.ensures c.in_err-next.was c.from_residual.ensures

pub read_args-returns-in-41 : goal.read_args-returns-in-41
read_args-returns-in-41 t c = args-close _ _ _ _ _ _ _ _ c.read_term.ensures c.in_ok-next.was _ c.set_argument.ensures c.byte_at.ensures.is (omega arith) (omega arith) c.encode.ensures

pub read_args-returns-in_default : goal.read_args-returns-in_default
read_args-returns-in_default t c = args_other _ _ _ _ _ _ _ _ c.read_term.ensures c.in_ok-next.was _ c.set_argument.ensures c.byte_at.ensures.is (λ z e. omega arith) (λ z e. omega arith)

pub read_args-returns-in_default-2 : goal.read_args-returns-in_default-2
read_args-returns-in_default-2 t c = args_other _ _ _ _ _ _ _ _ c.read_term.ensures c.in_ok-next.was _ c.set_argument.ensures c.byte_at.ensures.is (λ z e. omega arith) (λ z e. omega arith)

pub read_args-returns-in_default-3 : goal.read_args-returns-in_default-3
read_args-returns-in_default-3 t c = args_other _ _ _ _ _ _ _ _ c.read_term.ensures c.in_ok-next.was _ c.set_argument.ensures c.byte_at.ensures.is (λ z e. omega arith) (λ z e. omega arith)

pub read_term-read_args-requires : goal.read_term-read_args-requires
read_term-read_args-requires t c =
    let small = takes-small _ _ _ _ _ _ c.read_head.ensures c.in_ok-code.was c.in-Takes.is in
    (omega arith, (small.0, omega arith))
