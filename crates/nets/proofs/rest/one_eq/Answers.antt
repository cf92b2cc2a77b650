-- `nets::rest::one_eq` meets its contract.
use Rattle.std.proofs.Common.{rules, ap, ◌∙◌, Ok}
use Rattle.std.proofs.lemmas.Result.{err_from_is_err_and}
use Rattle.nets.proofs.Sizes.{next_fits}
use Rattle.nets.specs.Proofs.Stepping.{ended-begins, ended-within, step-done, step_unended, step-fault, step-next, moved-next}
use Rattle.nets.proofs.rest.one_eq.Goals as goal

pub returns-in_err-end-clause-stepped : goal.returns-in_err-end-clause-stepped
returns-in_err-end-clause-stepped c = search (rules, step_unended)

pub returns-in_default-clause-stepped : goal.returns-in_default-clause-stepped
returns-in_default-clause-stepped c = λ m fit d ef ek. step-done _ _ _ 0 0 c.next_line.result c.next_line.ensures m _ _ _ (c.in_ok-end.was ∙ ap Ok c.in_default.is) d

pub eq_line-requires : goal.eq_line-requires
eq_line-requires c = search (rules, ended-begins, ended-within)

pub returns-in_err-eq_line-clause-stepped : goal.returns-in_err-eq_line-clause-stepped
returns-in_err-eq_line-clause-stepped c = let p = err_from_is_err_and c.from_residual-in_err-eq_line.result c.from_residual-in_err-eq_line.ensures.1 in
    rw (p.1, p.2) (λ m fit d ef ek. step-fault _ _ _ _ _ c.next_line.result c.next_line.ensures m _ (c.in_ok-end.was ∙ ap Ok c.in-Some.is) _ _ _ _ _ fit d ef ek c.in_err-eq_line.ensures.eq_read)

pub overflow_add-result : goal.overflow_add-result
overflow_add-result c = search (rules, next_fits)

pub returns-clause-stepped : goal.returns-clause-stepped
returns-clause-stepped c = λ m fit d ef ek. step-next _ _ _ _ _ c.next_line.result c.next_line.ensures m _ (c.in_ok-end.was ∙ ap Ok c.in-Some.is) _ _ _ _ _ fit d ef ek
    c.in_ok-eq_line.ensures.eq_read c.in_ok-eq_line.ensures.k_lt_net_equations_max c.names.result c.names.ensures

pub returns-clause-moved : goal.returns-clause-moved
returns-clause-moved c = search (rules, moved-next)
