-- In which case a call of step or run has which answer, and what it leaves.
use Rattle.std.specs.Prelude.{ℕ, ◌≤◌, ◌<◌, ◌≡◌, List, ◌↔◌, ◌⊎◌, Ok, Err}
use Rattle.std.proofs.Math.Path.{refl, ap}
use Rattle.std.proofs.Common.{sym, ◌∙◌, inl, inr, arith}
use Rattle.std.proofs.Math.Decide.{dec_lt}
use Rattle.parts.specs.Limits.{budget_max}
use Rattle.model.specs.State.{St}
use Rattle.model.specs.Step.{Answer, moved, refused, place, taken_out, picked}
use Rattle.model.specs.Stepped.{stepped}
use Rattle.model.specs.Run.{ran}
use Rattle.model.specs.Walk.{Stop, ended, paused, noroom}
use Rattle.model.specs.Rows.{NoRoom, Row}
use Rattle.model.proofs.StepTable.{every-step}
use Rattle.model.proofs.Kept.{step_sound}
use Rattle.model.proofs.Stopped.{refused_12, refused_13, no_other}
use Rattle.state.specs.Layout.{view}
use Rattle.sound.specs.Lent.{under}
use Rattle.lent.specs.Both.{BothSound, table-given, sound_table_lem, sound-state, both_of}
use Rattle.lent.specs.Decided.{decided, where_sound, where_not}
use Rattle.machine.specs.Calls.{Told, made, stopped, number, Out, out, answered, step_told, step_called, run_told, ran_out, run_called}
use Rattle.parts.specs.declared.faults.Fault.{Fault}
use Rattle.parts.specs.declared.faults.Fault.TheVariants as Why
use Rattle.machine.specs.declared.calls.Ran.{Ran}
use Rattle.review.specs.Answers.{StepAnswer, RunAnswer}
use Rattle.review.specs.Picks.{stop_answer}
use Rattle.review.specs.Promises.{StepCall, RunCall}
use Rattle.review.proofs.Beneath.Told.{step_of, step_back, run_of, run_back, told-stop, exactly}

module _ (w v : List ℕ) where
  pub step_unsound : (p : ℕ) → ¬ BothSound w v → step_called w v p ≡ out (number 16) (view v)
  unfolding step_called
  step_unsound p h = where_not w v _ (out (number 16) (view v)) h

  pub step-asked : (p : ℕ) → BothSound w v → step_called w v p ≡ answered (stepped (under w) (view v) p) (view v)
  unfolding step_called
  step-asked p h = where_sound w v _ (out (number 16) (view v)) h

  pub run_unsound : (budget : ℕ) → ¬ BothSound w v → run_called w v budget ≡ out (number 16) (view v)
  unfolding run_called
  run_unsound budget h = where_not w v _ (out (number 16) (view v)) h

  unfoldable by_budget : (budget : ℕ) → Dec (budget_max < budget) → Out
  by_budget budget d = elim d [ yes h ↦ out (number 17) (view v) | no h ↦ ran_out (under w) budget (view v) ]

  run_by : (budget : ℕ) → BothSound w v → run_called w v budget ≡ by_budget budget (dec_lt budget_max budget)
  unfolding run_called by_budget
  run_by budget h = where_sound w v _ (out (number 16) (view v)) h

  pub run_too_much : (budget : ℕ) → BothSound w v → budget_max < budget → run_called w v budget ≡ out (number 17) (view v)
  unfolding by_budget
  run_too_much budget h o = run_by budget h ∙ go (dec_lt budget_max budget)
    where
      go : (d : Dec (budget_max < budget)) → by_budget budget d ≡ out (number 17) (view v)
      go (yes k) = refl
      go (no k) = absurd (k o)

  pub run-asked : (budget : ℕ) → BothSound w v → ¬ (budget_max < budget)
      → run_called w v budget ≡ ran_out (under w) budget (view v)
  unfolding by_budget
  run-asked budget h o = run_by budget h ∙ go (dec_lt budget_max budget)
    where
      go : (d : Dec (budget_max < budget)) → by_budget budget d ≡ ran_out (under w) budget (view v)
      go (yes k) = absurd (o k)
      go (no k) = refl

module _ (w v : List ℕ) (p : ℕ) where
  abbrev pub Made : Type 0
  Made = BothSound w v × (p < (view v).waiting.used) × ¬ NoRoom (under w) (view v) (picked (view v) p)

  abbrev pub Roomless : Type 0
  Roomless = BothSound w v × (p < (view v).waiting.used) × NoRoom (under w) (view v) (picked (view v) p)

  abbrev pub Past : Type 0
  Past = BothSound w v × ((view v).waiting.used ≤ p)

  pub data StepIf : StepAnswer → Type 0 where
    unsound : ¬ BothSound w v → StepIf (Err Why.Unsound)
    no_pick : Past → StepIf (Err Why.NoPick)
    no_room : Roomless → StepIf (Err Why.NoRoom)
    moves : Made → StepIf (Ok tt)

  pub if_unsound : StepIf (Err Why.Unsound) → ¬ BothSound w v
  if_unsound (StepIf.unsound h) = h

  pub if_no_pick : StepIf (Err Why.NoPick) → Past
  if_no_pick (StepIf.no_pick h) = h

  pub if_no_room : StepIf (Err Why.NoRoom) → Roomless
  if_no_room (StepIf.no_room h) = h

  pub if_moves : StepIf (Ok tt) → Made
  if_moves (StepIf.moves h) = h

  -- No other refusal comes.
  pub if_step_refused : {f : Fault} → StepIf (Err f) → (f ≡ Why.Unsound) ⊎ ((f ≡ Why.NoPick) ⊎ (f ≡ Why.NoRoom))
  if_step_refused (StepIf.unsound h) = inl refl
  if_step_refused (StepIf.no_pick h) = inr (inl refl)
  if_step_refused (StepIf.no_room h) = inr (inr refl)

  -- What is left: a refused step leaves the state as it was.
  abbrev state_of : Answer → St
  state_of (moved s) = s
  state_of (refused n) = view v

  abbrev pub step_leaves : StepAnswer → St
  step_leaves (Ok u) = state_of (stepped (under w) (view v) p)
  step_leaves (Err f) = view v

  not_refused : Made → (n : ℕ) → ¬ (stepped (under w) (view v) p ≡ refused n)
  not_refused (h, o, r) n e = go (no_other (under w) (view v) p n e)
    where
      go : (n ≡ 12) ⊎ (n ≡ 13) → ⊥
      go (inl z) = absurd (omega (arith, o, (refused_12 (under w) (view v) p).0 (e ∙ ap refused z)))
      go (inr z) = r ((refused_13 (sound-state h) p).0 (e ∙ ap refused z)).1

  pub moves_to : Made → stepped (under w) (view v) p ≡ moved (step_leaves (Ok tt))
  moves_to i = go (stepped (under w) (view v) p) refl
    where
      go : (a : Answer) → stepped (under w) (view v) p ≡ a → a ≡ moved (state_of a)
      go (moved s) e = refl
      go (refused n) e = absurd (not_refused i n e)

  pub step_comes : (q : StepAnswer) → StepIf q → step_called w v p ≡ out (step_told q) (step_leaves q)
  step_comes q i = go i
    where
      go : {q : StepAnswer} → StepIf q → step_called w v p ≡ out (step_told q) (step_leaves q)
      go (StepIf.unsound h) = step_unsound w v p h
      go (StepIf.no_pick (h, o)) =
          step-asked w v p h ∙ ap (λ a. answered a (view v)) ((refused_12 (under w) (view v) p).1 o)
      go (StepIf.no_room (h, o, n)) =
          step-asked w v p h ∙ ap (λ a. answered a (view v)) ((refused_13 (sound-state h) p).1 (o, n))
      go (StepIf.moves i) = step-asked w v p i.0 ∙ ap (λ a. answered a (view v)) (moves_to i)

  moved-refused : {s : St} {n : ℕ} → moved s ≡ refused n → ⊥
  moved-refused e = absurd (let z : ◌≡◌ {A = ℕ} 0 1 = cc in omega arith)

  pub step_some : (q : StepAnswer) × StepIf q
  step_some = go (decided w v) (dec_lt p (view v).waiting.used)
    where
      by : BothSound w v → p < (view v).waiting.used → (a : Answer) → stepped (under w) (view v) p ≡ a
          → (q : StepAnswer) × StepIf q
      by h o (moved s) e =
          (Ok tt, StepIf.moves (h, o, λ n. moved-refused (sym e ∙ (refused_13 (sound-state h) p).1 (o, n))))
      by h o (refused n) e = which (no_other (under w) (view v) p n e)
        where
          which : (n ≡ 12) ⊎ (n ≡ 13) → (q : StepAnswer) × StepIf q
          which (inl z) = (Err Why.NoPick, StepIf.no_pick (h, (refused_12 (under w) (view v) p).0 (e ∙ ap refused z)))
          which (inr z) = let k = (refused_13 (sound-state h) p).0 (e ∙ ap refused z) in (Err Why.NoRoom, StepIf.no_room (h, k.0, k.1))

      go : Dec (BothSound w v) → Dec (p < (view v).waiting.used) → (q : StepAnswer) × StepIf q
      go (no h) d = (Err Why.Unsound, StepIf.unsound h)
      go (yes h) (no o) = (Err Why.NoPick, StepIf.no_pick (h, omega arith))
      go (yes h) (yes o) = by h o (stepped (under w) (view v) p) refl

module _ {w v : List ℕ} {p : ℕ} {r : StepAnswer} {v' : List ℕ} (c : StepCall w v p r v') where
  pub step_exactly : (q : StepAnswer) → (r ≡ q) ↔ StepIf w v p q
  step_exactly =
      exactly
      step_of
      step_back
      (StepIf w v p)
      (λ q i. ap (λ o. o.told) (step_comes w v p q i))
      (step_some w v p)
      (ap (λ o. o.told) c.promised)

  pub step_left : view v' ≡ step_leaves w v p r
  step_left = ap (λ o. o.state) (c.promised ∙ step_comes w v p r ((step_exactly r).0 refl))

  pub step_kept : ¬ (r ≡ Ok tt) → view v' ≡ view v
  step_kept n = step_left ∙ same r n
    where
      same : (q : StepAnswer) → ¬ (q ≡ Ok tt) → step_leaves w v p q ≡ view v
      same (Ok u) n = absurd (n refl)
      same (Err f) n = refl

-- A step that was made.
pub step_went : {w v : List ℕ} {p : ℕ} {v' : List ℕ} → StepCall w v p (Ok tt) v'
    → BothSound w v × (p < (view v).waiting.used) × (stepped (under w) (view v) p ≡ moved (view v'))
step_went {w} {v} {p} c =
    let i = if_moves w v p ((step_exactly c (Ok tt)).0 refl) in (i.0, i.1, moves_to w v p i ∙ ap moved (sym (step_left c)))

pub step_sound_after : {w v : List ℕ} {p : ℕ} {v' : List ℕ} → StepCall w v p (Ok tt) v' → BothSound w v'
step_sound_after {w} {v} {p} {v'} c =
    let k = step_went c in
    both_of w v' (table-given k.0) (step_sound (sound_table_lem k.0) (sound-state k.0) p k.2)

-- A step that was made is a row of the step table.
module _ {w v : List ℕ} {p : ℕ} {v' : List ℕ} (c : StepCall w v p (Ok tt) v') where
  abbrev Rows : St → Type 0
  Rows = Row (under w) (taken_out (place (view v) p) (view v)) (picked (view v) p)

  pub step_row : Rows (view v')
  step_row = let k = step_went c in every-step (sound-state k.0) p k.1 k.2

module _ (w v : List ℕ) (budget : ℕ) where
  -- A run that is not refused tells why it stopped, and the interactions made.
  abbrev run_says : Told
  run_says = stopped (ran (under w) budget (view v)).stop (ran (under w) budget (view v)).made

  abbrev RunOn : RunAnswer → Type 0
  RunOn r = BothSound w v × (budget ≤ budget_max) × (run_says ≡ run_told r)

  pub data RunIf : RunAnswer → Type 0 where
    unsound : ¬ BothSound w v → RunIf (Err Why.Unsound)
    too_much : BothSound w v × (budget_max < budget) → RunIf (Err Why.LargeBudget)
    stops : (r : Ran) → RunOn (Ok r) → RunIf (Ok r)

  pub if_run_unsound : RunIf (Err Why.Unsound) → ¬ BothSound w v
  if_run_unsound (RunIf.unsound h) = h

  pub if_too_much : RunIf (Err Why.LargeBudget) → BothSound w v × (budget_max < budget)
  if_too_much (RunIf.too_much h) = h

  pub if_stops : {r : Ran} → RunIf (Ok r) → RunOn (Ok r)
  if_stops (RunIf.stops r h) = h

  -- No other refusal comes.
  pub if_refused : {f : Fault} → RunIf (Err f) → (◌≡◌ {A = RunAnswer} (Err f) (Err Why.Unsound)) ⊎ (◌≡◌ {A = RunAnswer} (Err f) (Err Why.LargeBudget))
  if_refused (RunIf.unsound h) = inl refl
  if_refused (RunIf.too_much h) = inr refl

  pub if_run_refused : {f : Fault} → RunIf (Err f) → (f ≡ Why.Unsound) ⊎ (f ≡ Why.LargeBudget)
  if_run_refused (RunIf.unsound h) = inl refl
  if_run_refused (RunIf.too_much h) = inr refl

  abbrev pub run_leaves : RunAnswer → St
  run_leaves (Err f) = view v
  run_leaves (Ok r) = (ran (under w) budget (view v)).state

  runs_on : (r : RunAnswer) → RunOn r → run_called w v budget ≡ out (run_told r) (ran (under w) budget (view v)).state
  unfolding ran_out
  runs_on r (h, o, e) =
      run-asked w v budget h (omega arith) ∙ ap (λ t. out t (ran (under w) budget (view v)).state) e

  pub run_comes : (q : RunAnswer) → RunIf q → run_called w v budget ≡ out (run_told q) (run_leaves q)
  run_comes q i = go i
    where
      go : {q : RunAnswer} → RunIf q → run_called w v budget ≡ out (run_told q) (run_leaves q)
      go (RunIf.unsound h) = run_unsound w v budget h
      go (RunIf.too_much (h, o)) = run_too_much w v budget h o
      go (RunIf.stops r i) = runs_on (Ok r) i

  pub run_some : (q : RunAnswer) × RunIf q
  run_some = go (decided w v) (dec_lt budget_max budget)
    where
      by : BothSound w v → budget ≤ budget_max → (t : Stop) (n : ℕ) → run_says ≡ stopped t n → (q : RunAnswer) × RunIf q
      by h o ended n e = (stop_answer ended n, RunIf.stops _ (h, o, e))
      by h o paused n e = (stop_answer paused n, RunIf.stops _ (h, o, e))
      by h o noroom n e = (stop_answer noroom n, RunIf.stops _ (h, o, e))

      go : Dec (BothSound w v) → Dec (budget_max < budget) → (q : RunAnswer) × RunIf q
      go (no h) d = (Err Why.Unsound, RunIf.unsound h)
      go (yes h) (yes o) = (Err Why.LargeBudget, RunIf.too_much (h, o))
      go (yes h) (no o) = by h (omega arith) _ _ refl

module _ {w v : List ℕ} {budget : ℕ} {r : RunAnswer} {v' : List ℕ} (c : RunCall w v budget r v') where
  pub run_exactly : (q : RunAnswer) → (r ≡ q) ↔ RunIf w v budget q
  run_exactly =
      exactly
      run_of
      run_back
      (RunIf w v budget)
      (λ q i. ap (λ o. o.told) (run_comes w v budget q i))
      (run_some w v budget)
      (ap (λ o. o.told) c.promised)

  run_left : (q : RunAnswer) → r ≡ q → view v' ≡ run_leaves w v budget q
  run_left q e = ap (λ o. o.state) (c.promised ∙ run_comes w v budget q ((run_exactly q).0 e))

  pub run-kept : (r ≡ Err Why.Unsound) ⊎ (r ≡ Err Why.LargeBudget) → view v' ≡ view v
  run-kept (inl e) = run_left (Err Why.Unsound) e
  run-kept (inr e) = run_left (Err Why.LargeBudget) e

-- A run that was not refused.
pub run-went : {w v : List ℕ} {budget : ℕ} {r : RunAnswer} {v' : List ℕ} → RunCall w v budget r v' → (t : Stop) (n : ℕ)
    → run_told r ≡ stopped t n
    → BothSound w v
    × (t ≡ (ran (under w) budget (view v)).stop)
    × (n ≡ (ran (under w) budget (view v)).made)
    × (view v' ≡ (ran (under w) budget (view v)).state)
run-went {w} {v} {budget} {r} {v'} c t n e = go r ((run_exactly c r).0 refl) (run_left c r refl) e
  where
    stop_told : Told → Stop
    stop_told (stopped t n) = t
    stop_told made = ended
    stop_told (number n) = ended

    count_of : Told → ℕ
    count_of (stopped t n) = n
    count_of made = 0
    count_of (number n) = 0

    Went : Type 0
    Went =
        BothSound w v
        × (t ≡ (ran (under w) budget (view v)).stop)
        × (n ≡ (ran (under w) budget (view v)).made)
        × (view v' ≡ (ran (under w) budget (view v)).state)

    on : (q : RunAnswer) → RunOn w v budget q → view v' ≡ (ran (under w) budget (view v)).state → run_told q ≡ stopped t n
        → Went
    on q (h, o, k) s e = (h, sym (ap stop_told (k ∙ e)), sym (ap count_of (k ∙ e)), s)

    go : (q : RunAnswer) → RunIf w v budget q → view v' ≡ run_leaves w v budget q → run_told q ≡ stopped t n → Went
    go (Err f) i s e = absurd (let z : ◌≡◌ {A = ℕ} 0 1 = cc in omega arith)
    go (Ok m) i s e = on (Ok m) (if_stops w v budget i) s e
