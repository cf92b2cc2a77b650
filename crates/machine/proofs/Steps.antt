-- One law for each way out of the public call `step`.
use Rattle.std.proofs.Common.{◌≡◌, ap, subst, sym, ◌∙◌, Bool, true, false, Result, Ok, Err, List, ◌↔◌, ℕ, ◌<◌, ◌≤◌, arith}
use Rattle.model.proofs.Beneath.Runs.{past-answers}
use Rattle.model.specs.State.{St}
use Rattle.model.specs.Stepped.{stepped}
use Rattle.state.specs.Layout.{view}
use Rattle.sound.specs.Lent.{under}
use Rattle.lent.specs.Both.{BothSound, table-given, sound-state}
use Rattle.lent.specs.Decided.{where_sound, where_not}
use Rattle.machine.specs.Calls.{out, number, answered, step_told, step_called}
use Rattle.machine.specs.Picked.{Steppable, Went}
use Rattle.machine.specs.declared.outcome.Made.{Made}
use Rattle.machine.specs.declared.outcome.Stop.{Stop}
use Rattle.machine.specs.declared.outcome.Stop.TheVariants.{Ended, Paused}
use Rattle.machine.specs.declared.outcome.Stop.TheVariants as Why
use Rattle.parts.specs.declared.faults.Fault.TheVariants.{NoPick, NoRoom, Unsound}

never : {A : Type 0} → true ≡ false → A
never e = absurd (let z : ◌≡◌ {A = ℕ} 0 1 = cc in omega arith)

module _ (w v : List ℕ) (t : Bool) (asked : (t ≡ true) ↔ BothSound w v) (p : ℕ) where
  pub step_unsound : t ≡ false → out (step_told (Err Unsound)) (view v) ≡ step_called w v p
  unfolding step_called
  step_unsound e = sym (where_not w v _ _ (λ h. never (sym (asked.1 h) ∙ e)))

  module _ (yes : t ≡ true) where
    called_is : step_called w v p ≡ answered (stepped (under w) (view v) p) (view v)
    unfolding step_called
    called_is = where_sound w v _ _ (asked.0 yes)

    pub step_past : (n : ℕ) → n ≡ (view v).waiting.used → n ≤ p → out (step_told (Err NoPick)) (view v) ≡ step_called w v p
    step_past n e o =
        sym (called_is ∙ ap (λ a. answered a (view v)) (past-answers (under w) (view v) p (omega arith)))

    pub steppable : (n : ℕ) → n ≡ (view v).waiting.used → p < n → Steppable w (view v) p
    steppable n e o =
        record { given = table-given (asked.0 yes); sound = sound-state (asked.0 yes); waits = omega arith }

    module _ (o : Result Made Stop) (s : St) (went : Went (under w) true (view v) p o s) where
      went_at : {o' : Result Made Stop} → o ≡ o' → Went (under w) true (view v) p o' s
      went_at e = subst (λ o. Went (under w) true (view v) p o s) e went

      pub step_made : (m : Made) (u : Unit {0}) → o ≡ Ok m → out (step_told (Ok u)) s ≡ step_called w v p
      unfolding Went
      step_made m u e = sym (called_is ∙ ap (λ a. answered a (view v)) (went_at e).1)

      -- the budget is not asked, so that room alone can be short
      pub step-full : (e : Stop) → o ≡ Err e → out (step_told (Err NoRoom)) s ≡ step_called w v p
      unfolding Went
      step-full Ended e = absurd (went_at e)
      step-full Paused e = never (went_at e).1
      step-full Why.NoRoom e =
          let g = went_at e in
          sym (called_is ∙ ap (λ a. answered a (view v)) g.1 ∙ ap (out (number 13)) (sym g.2))
