-- `nets::front::second_line` meets its contract.
use Rattle.std.proofs.Common.{rules, ap, ◌∙◌, Ok}
use Rattle.std.proofs.lemmas.Result.{err_from_is_err_and}
use Rattle.nets.proofs.Sizes.{next_fits}
use Rattle.nets.specs.Proofs.Stepping.{ended-begins, ended-within}
use Rattle.nets.specs.Proofs.Fronts.{second_none, second_unended, second-bad, second-face, within-face}
use Rattle.nets.proofs.front.second_line.Goals as goal

pub returns-in_err-end-clause-second_read : goal.returns-in_err-end-clause-second_read
returns-in_err-end-clause-second_read c = search (rules, second_unended)

pub returns-in_default-clause-second_read : goal.returns-in_default-clause-second_read
returns-in_default-clause-second_read c = search (rules, second_none)

pub face_line-requires : goal.face_line-requires
face_line-requires c = search (rules, ended-begins, ended-within)

pub returns-in_err-face_line-clause-second_read : goal.returns-in_err-face_line-clause-second_read
returns-in_err-face_line-clause-second_read c = let p = err_from_is_err_and c.from_residual-in_err-face_line.result c.from_residual-in_err-face_line.ensures.1 in
    rw (p.1, p.2) (λ fit d long. second-bad _ _ _ c.next_line.result c.next_line.ensures _ (c.in_ok-end.was ∙ ap Ok c.in-Some.is) _ _ _ _ fit d c.in_err-face_line.ensures.face_read)

pub slice_bounds-terms_in-count : goal.slice_bounds-terms_in-count
slice_bounds-terms_in-count c = search (rules, ended-begins)

pub slice_bounds-terms_in-start : goal.slice_bounds-terms_in-start
slice_bounds-terms_in-start c = search (rules, ended-begins)

pub slice_bounds-terms_in-end : goal.slice_bounds-terms_in-end
slice_bounds-terms_in-end c = search (rules, ended-within)

pub overflow_add-result : goal.overflow_add-result
overflow_add-result c = search (rules, next_fits)

pub returns-clause-second_read : goal.returns-clause-second_read
returns-clause-second_read c = λ fit d long. second-face _ _ _ c.next_line.result c.next_line.ensures _ (c.in_ok-end.was ∙ ap Ok c.in-Some.is) _ _ _ _ fit d
    c.in_ok-face_line.ensures.face_read c.names.result c.args.draft.now.marks long c.names.ensures _ c.terms_in.ensures

pub returns-clause-within : goal.returns-clause-within
returns-clause-within c = within-face _ _ c.next_line.result _ _ c.next_line.ensures (c.in_ok-end.was ∙ ap Ok c.in-Some.is) c.in_ok-face_line.ensures.end_len_bound c.terms_in.ensures
