-- The invariant of a run, and one law for each way through it and out of it.
use Rattle.std.proofs.Common.{◌≡◌, refl, ap, ap₂, subst, sym, ◌∙◌, Bool, true, false, Result, Ok, Err, List, ◌↔◌, ℕ, suc, ◌-◌, ◌<◌, ◌≤◌, arith}
use native.Mathlib.Decide.{dec_lt}
use Rattle.parts.specs.Limits.{budget_max}
use Rattle.model.specs.Run.{stopped, run, ran}
use Rattle.model.specs.Walk.{ended}
use Rattle.model.specs.State.{St}
use Rattle.state.specs.Layout.{view}
use Rattle.sound.specs.Lent.{under}
use Rattle.kept.specs.Right.{Right}
use Rattle.kept.specs.declared.Kept.{Kept}
use Rattle.lent.specs.Both.{BothSound, table-given, sound-state}
use Rattle.lent.specs.Decided.{where_sound, where_not}
use Rattle.machine.specs.Calls.{Out, out, number, stood, ran_out, ran_told, run_told, run_called}
use Rattle.machine.specs.Turns.{enough, Turnable, WentOn, stop_of, TurnAs}
use Rattle.machine.specs.declared.turns.Running.{Running}
use Rattle.machine.specs.declared.outcome.Stop.{Stop}
use Rattle.machine.specs.declared.outcome.Stop.TheVariants.{Ended}
use Rattle.parts.specs.declared.faults.Fault.TheVariants.{Unsound, LargeBudget}

-- The run from the state now, with what is left, is the run from the first state.
pub record Going (w : List ℕ) (s₀ : St) (budget : ℕ) (s : St) (r : Running) (steps : ℕ) : Type 0 where
  pub turnable : Turnable w s
  pub right : Right r.kept s
  pub few : r.left ≤ budget
  pub same : run (under w) steps r.left (budget - r.left) s ≡ ran (under w) budget s₀

pub going_none : (w : List ℕ) (s : St) (budget steps : ℕ) (k : Kept) → Turnable w s → Right k s → steps ≡ enough budget
    → Going w s budget s (record { kept = k; left = budget }) steps
unfolding ran
going_none w s budget steps k f g e =
    record {
      turnable = f;
      right = g;
      few = omega arith;
      same = ap₂ (λ n m. run (under w) n budget m s) e (omega arith);
    }

module _ (w : List ℕ) (s₀ : St) (budget : ℕ) (s : St) (r : Running) (steps : ℕ) (f : Going w s₀ budget s r steps) where
  pub going_right : Right r.kept s
  going_right = f.right

  -- nothing left to do: the model says so too
  pub going_end : (n : ℕ) → steps ≤ 0 → n ≡ budget - r.left → out (ran_told (record { stop = Ended; made = n })) s ≡ ran_out (under w) budget s₀
  unfolding ran_out run
  going_end n h e =
      let z : steps ≡ 0 = omega arith in
      ap (λ m. stood (stopped ended m s)) e ∙ ap stood (sym (ap (λ k. run (under w) k r.left (budget - r.left) s) z) ∙ f.same)

  module _ (rest : ℕ) (more : steps ≡ suc rest) (t : Result Running Stop) (s' : St) (turned : TurnAs (under w) r.left s t s') where
    same_run : run (under w) (suc rest) r.left (budget - r.left) s ≡ ran (under w) budget s₀
    same_run = ap (λ k. run (under w) k r.left (budget - r.left) s) (sym more) ∙ f.same

    pub going_more : (next : Running) → t ≡ Ok next → Going w s₀ budget s' next rest
    unfolding TurnAs
    going_more next e = go (subst (λ t. TurnAs (under w) r.left s t s') e turned)
      where
        go : WentOn (under w) r.left s next s' → Going w s₀ budget s' next rest
        go g =
            record {
              turnable = record { given = f.turnable.given; sound = g.sound };
              right = g.right;
              few = omega (arith, g.few, f.few);
              same =
                  ap (λ m. run (under w) rest next.left m s') (omega (arith, g.few, f.few))
                  ∙ (sym (g.runs rest (budget - r.left)) ∙ same_run);
            }

    pub going_stopped : (e : Stop) (n : ℕ) → t ≡ Err e → n ≡ budget - r.left
        → out (ran_told (record { stop = e; made = n })) s' ≡ ran_out (under w) budget s₀
    unfolding TurnAs ran_out
    going_stopped e n h q =
        let g = subst (λ t. TurnAs (under w) r.left s t s') h turned in
        ap₂ (λ m v. stood (stopped (stop_of e) m v)) q g.1 ∙ ap stood (sym (g.0 rest (budget - r.left)) ∙ same_run)

-- The public call.
never : {A : Type 0} → true ≡ false → A
never e = absurd (let z : ◌≡◌ {A = ℕ} 0 1 = cc in omega arith)

module _ (w v : List ℕ) (t : Bool) (asked : (t ≡ true) ↔ BothSound w v) (budget : ℕ) where
  pub run_unsound : t ≡ false → out (run_told (Err Unsound)) (view v) ≡ run_called w v budget
  unfolding run_called
  run_unsound e = sym (where_not w v _ _ (λ h. never (sym (asked.1 h) ∙ e)))

  module _ (sure : t ≡ true) where
    pub turnable : Turnable w (view v)
    turnable =
        record { given = table-given (asked.0 sure); sound = sound-state (asked.0 sure) }

    pub run_too_much : budget_max < budget → out (run_told (Err LargeBudget)) (view v) ≡ run_called w v budget
    unfolding run_called
    run_too_much o = sym (where_sound w v _ _ (asked.0 sure) ∙ go (dec_lt budget_max budget))
      where
        go : (d : Dec (budget_max < budget))
            → elim d as (λ _. Out) [ yes h ↦ out (number 17) (view v) | no h ↦ ran_out (under w) budget (view v) ] ≡ out (number 17) (view v)
        go (yes h) = refl
        go (no h) = absurd (h o)

    pub run-made : (a : Out) → budget ≤ budget_max → a ≡ ran_out (under w) budget (view v) → a ≡ run_called w v budget
    unfolding run_called
    run-made a o e = e ∙ sym (where_sound w v _ _ (asked.0 sure) ∙ go (dec_lt budget_max budget))
      where
        go : (d : Dec (budget_max < budget))
            → elim d as (λ _. Out) [ yes h ↦ out (number 17) (view v) | no h ↦ ran_out (under w) budget (view v) ] ≡ ran_out (under w) budget (view v)
        go (yes h) = absurd (omega arith)
        go (no h) = refl
