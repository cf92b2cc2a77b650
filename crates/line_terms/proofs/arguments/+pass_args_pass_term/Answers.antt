-- `pass_term` and `pass_args`: one law for each way out. Assumes nothing.
use Rattle.std.proofs.Common.{arith}
use Rattle.line_terms.proofs.Arguing.{args-wrong, args-close, args_comma, args_other}
use Rattle.line_terms.proofs.arguments.+pass_args_pass_term.Goals as goal

pub pass_args-returns-in_err-next : goal.pass_args-returns-in_err-next
pass_args-returns-in_err-next t c = args-wrong _ _ _ _ c.pass_term.ensures c.in_err-next.was c.from_residual.ensures

pub pass_args-returns-in-41 : goal.pass_args-returns-in-41
pass_args-returns-in-41 t c = args-close _ _ _ _ c.pass_term.ensures c.in_ok-next.was c.byte_at.ensures.is (omega arith) (omega arith)

pub pass_args-returns-in-44 : goal.pass_args-returns-in-44
pass_args-returns-in-44 t c = args_comma _ _ _ _ c.pass_term.ensures c.in_ok-next.was c.byte_at.ensures.is (λ z. omega arith) (omega arith) c.pass_args.ensures

pub pass_args-returns-in_default : goal.pass_args-returns-in_default
pass_args-returns-in_default t c = args_other _ _ _ _ c.pass_term.ensures c.in_ok-next.was c.byte_at.ensures.is (λ z e. omega arith) (λ z e. omega arith)

pub pass_args-returns-in_default-2 : goal.pass_args-returns-in_default-2
pass_args-returns-in_default-2 t c = args_other _ _ _ _ c.pass_term.ensures c.in_ok-next.was c.byte_at.ensures.is (λ z e. omega arith) (λ z e. omega arith)

pub pass_args-returns-in_default-3 : goal.pass_args-returns-in_default-3
pass_args-returns-in_default-3 t c = args_other _ _ _ _ c.pass_term.ensures c.in_ok-next.was c.byte_at.ensures.is (λ z e. omega arith) (λ z e. omega arith)
