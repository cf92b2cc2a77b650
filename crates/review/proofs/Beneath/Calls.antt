-- Each refusal of step, run and the reader of the end, and each step that is made: with what is left, exactly.
use Rattle.std.specs.Prelude.{ℕ, ◌≤◌, ◌<◌, ◌≡◌, refl, List, ◌↔◌, ◌⊎◌, length, Ok, Err}
use Rattle.std.proofs.Common.{sym, ap, ◌∙◌, inl, inr}
use Rattle.parts.specs.Limits.{budget_max}
use Rattle.model.specs.Step.{place, taken_out, picked}
use Rattle.model.specs.Rows.{NoRoom, Row}
use Rattle.model.proofs.StepTable.{step-table}
use Rattle.state.specs.Layout.{view}
use Rattle.sound.specs.Lent.{under}
use Rattle.lent.specs.Both.{BothSound, sound-state}
use Rattle.machine.specs.Calls.{out, answered, step_told, run_told}
use Rattle.parts.specs.declared.faults.Fault.{Fault}
use Rattle.parts.specs.declared.faults.Fault.TheVariants as Why
use Rattle.review.specs.Answers.{StepAnswer, RunAnswer, EndAnswer}
use Rattle.answer.specs.Called.{given, end_told}
use Rattle.review.specs.Promises.{StateArray, StepCall, RunCall, AnswerCall, lines_of_net}
use Rattle.review.proofs.Beneath.Exist.{same_state}
use Rattle.review.proofs.Beneath.Steps.{StepIf, if_unsound, if_no_pick, if_no_room, if_step_refused, step-asked, step_comes, step_leaves, step_exactly, step_left, step_went, step_row, RunIf, if_run_unsound, if_too_much, if_run_refused, run_comes, run_leaves, run_exactly, run-kept}
use Rattle.review.proofs.Beneath.Reads.{AnswerIf, answer_leaves, answer_comes, answer_exactly, answer-kept}
use Rattle.review.proofs.Beneath.Reads as Reads

-- A step that is made is a row of the step table.
pub step-made : {w v v' : List ℕ} {p : ℕ}
    → StepCall w v p (Ok tt) v'
    ↔ (BothSound w v
    × (p < (view v).waiting.used)
    × Row (under w) (taken_out (place (view v) p) (view v)) (picked (view v) p) (view v'))
step-made {w} {v} {v'} {p} = (
  λ c. let k = step_went c in (k.0, k.1, step_row c),
  λ (h, o, r).
      record { promised = sym (step-asked w v p h ∙ ap (λ a. answered a (view v)) (step-table (sound-state h) p o r)) },
)

-- A refused step: the condition of its number holds, and the state is as it was.
module _ {w v v' : List ℕ} {p : ℕ} (lent : StateArray v) (after : StateArray v') where
  back : {q : StepAnswer} → step_leaves w v p q ≡ view v → StepIf w v p q → v' ≡ v → StepCall w v p q v'
  back {q} l i e = record { promised = ap (out (step_told q)) (ap view e ∙ sym l) ∙ sym (step_comes w v p q i) }

  kept : {q : StepAnswer} → step_leaves w v p q ≡ view v → StepCall w v p q v' → v' ≡ v
  kept l c = same_state after lent (step_left c ∙ l)

  pub step_unsound : StepCall w v p (Err Why.Unsound) v' ↔ ((¬ BothSound w v) × (v' ≡ v))
  step_unsound = (
    λ c. (if_unsound w v p ((step_exactly c (Err Why.Unsound)).0 refl), kept refl c),
    λ (h, e). back refl (StepIf.unsound h) e,
  )

  pub step_no_pick : StepCall w v p (Err Why.NoPick) v' ↔ (BothSound w v × ((view v).waiting.used ≤ p) × (v' ≡ v))
  step_no_pick = (
    λ c.
        let i = if_no_pick w v p ((step_exactly c (Err Why.NoPick)).0 refl) in
        (i.0, i.1, kept refl c),
    λ (h, o, e). back refl (StepIf.no_pick (h, o)) e,
  )

  pub step_no_room : StepCall w v p (Err Why.NoRoom) v'
      ↔ (BothSound w v
      × (p < (view v).waiting.used)
      × NoRoom (under w) (view v) (picked (view v) p)
      × (v' ≡ v))
  step_no_room = (
    λ c.
        let i = if_no_room w v p ((step_exactly c (Err Why.NoRoom)).0 refl) in
        (i.0, i.1, i.2, kept refl c),
    λ (h, o, n, e). back refl (StepIf.no_room (h, o, n)) e,
  )

-- A refused run.
module _ {w v v' : List ℕ} {budget : ℕ} (lent : StateArray v) (after : StateArray v') where
  run_back : {q : RunAnswer} → run_leaves w v budget q ≡ view v → RunIf w v budget q → v' ≡ v → RunCall w v budget q v'
  run_back {q} l i e = record { promised = ap (out (run_told q)) (ap view e ∙ sym l) ∙ sym (run_comes w v budget q i) }

  pub run_unsound : RunCall w v budget (Err Why.Unsound) v' ↔ ((¬ BothSound w v) × (v' ≡ v))
  run_unsound = (
    λ c. (if_run_unsound w v budget ((run_exactly c (Err Why.Unsound)).0 refl), same_state after lent (run-kept c (inl refl))),
    λ (h, e). run_back refl (RunIf.unsound h) e,
  )

  pub run_too_much : RunCall w v budget (Err Why.LargeBudget) v' ↔ (BothSound w v × (budget_max < budget) × (v' ≡ v))
  run_too_much = (
    λ c. let i = if_too_much w v budget ((run_exactly c (Err Why.LargeBudget)).0 refl) in (i.0, i.1, same_state after lent (run-kept c (inr refl))),
    λ (h, o, e). run_back refl (RunIf.too_much (h, o)) e,
  )

-- A refused reading of the end.
module _ {w v o o' : List ℕ} where
  answer_back : {q : EndAnswer} → answer_leaves w v o q ≡ o → AnswerIf w v o q → o' ≡ o → AnswerCall w v o q o'
  answer_back {q} l i e = record { promised = ap (given (end_told q)) (e ∙ sym l) ∙ sym (answer_comes w v o q i) }

  pub answer_unsound : AnswerCall w v o (Err Why.Unsound) o' ↔ ((¬ BothSound w v) × (o' ≡ o))
  answer_unsound = (
    λ c. (Reads.if_unsound w v o ((answer_exactly c (Err Why.Unsound)).0 refl), answer-kept c refl),
    λ (h, e). answer_back refl (AnswerIf.unsound h) e,
  )

  pub answer-waits : AnswerCall w v o (Err Why.Waits) o' ↔ (BothSound w v × (0 < (view v).waiting.used) × (o' ≡ o))
  answer-waits = (
    λ c. let i = Reads.if_waits w v o ((answer_exactly c (Err Why.Waits)).0 refl) in (i.0, i.1, answer-kept c refl),
    λ (h, b, e). answer_back refl (AnswerIf.waits (h, b)) e,
  )

  pub answer-long : AnswerCall w v o (Err Why.LongAnswer) o'
      ↔ ((h : BothSound w v) × ((view v).waiting.used ≡ 0) × (length o < length (lines_of_net h)) × (o' ≡ o))
  answer-long = (
    λ c. let i = Reads.if_long w v o ((answer_exactly c (Err Why.LongAnswer)).0 refl) in (i.0, i.1, i.2, answer-kept c refl),
    λ (h, z, b, e). answer_back refl (AnswerIf.long (h, z, b)) e,
  )

-- A call that is refused is refused by one of its own numbers.
pub step_no_other : {w v v' : List ℕ} {p : ℕ} {f : Fault} → StepCall w v p (Err f) v'
    → (f ≡ Why.Unsound) ⊎ ((f ≡ Why.NoPick) ⊎ (f ≡ Why.NoRoom))
step_no_other {w} {v} {p = p} {f = f} c = if_step_refused w v p ((step_exactly c (Err f)).0 refl)

pub run_no_other : {w v v' : List ℕ} {budget : ℕ} {f : Fault} → RunCall w v budget (Err f) v'
    → (f ≡ Why.Unsound) ⊎ (f ≡ Why.LargeBudget)
run_no_other {w} {v} {budget = budget} {f = f} c = if_run_refused w v budget ((run_exactly c (Err f)).0 refl)

pub answer_no_other : {w v o o' : List ℕ} {f : Fault} → AnswerCall w v o (Err f) o'
    → (f ≡ Why.Unsound) ⊎ ((f ≡ Why.Waits) ⊎ (f ≡ Why.LongAnswer))
answer_no_other {w} {v} {o} {f = f} c = Reads.if_answer_refused w v o ((answer_exactly c (Err f)).0 refl)
