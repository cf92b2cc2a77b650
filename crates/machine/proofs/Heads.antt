-- One law for each way out of a turn, and for each way through a run.
use Rattle.std.proofs.Common.{◌≡◌, refl, ap, ap₂, subst, sym, ◌∙◌, Bool, true, false, Result, Ok, Err, List, ◌⊎◌, inl, inr, ℕ, zero, suc, ◌-◌, ◌<◌, ◌≤◌, arith, ltb, ltb-true, ltb-false}
use mir.Val.{bool_byte}
use Rattle.lent.specs.Both.{given-sound}
use Rattle.model.proofs.Kept.{step_sound}
use Rattle.model.specs.Run.{stopped, run}
use Rattle.model.specs.Walk.{Ran, one_made, ended, paused, noroom}
use Rattle.model.specs.Sound.{Sound}
use Rattle.model.specs.SoundTable.{SoundTable}
use Rattle.model.specs.State.{St}
use Rattle.model.specs.Step.{Answer, moved, refused, rule_at}
use Rattle.model.specs.Stepped.{stepped}
use Rattle.model.specs.Table.{Table}
use Rattle.sound.specs.Lent.{under}
use Rattle.kept.specs.Right.{Right}
use Rattle.kept.specs.declared.Kept.{Kept}
use Rattle.machine.specs.Picked.{Steppable, Went}
use Rattle.machine.specs.Turns.{Turnable, WentOn, TurnAs}
use Rattle.machine.specs.Meets.{Counted}
use Rattle.machine.specs.declared.outcome.Made.{Made}
use Rattle.machine.specs.declared.outcome.Stop.{Stop}
use Rattle.machine.specs.declared.outcome.Stop.TheVariants.{Ended, Paused, NoRoom}

-- The model's run, by what is at the head.
module _ (T : Table) (steps budget made : ℕ) (s : St) where
  abbrev after : ℕ → ℕ → Answer → Ran
  after b m a = elim a [ moved s' ↦ run T steps b m s' | refused n ↦ stopped noroom made s ]

  abbrev spend : ℕ → Answer → Ran
  spend b a = elim b [ zero ↦ stopped paused made s | suc c ↦ after c (suc made) a ]

  abbrev by_head : ℕ → Answer → Ran
  by_head o a = elim o [ zero ↦ after budget made a | suc p ↦ spend budget a ]

  abbrev by_waiting : ℕ → ℕ → Answer → Ran
  by_waiting n o a = elim n [ zero ↦ stopped ended made s | suc w ↦ by_head o a ]

  by_number : run T (suc steps) budget made s ≡ by_waiting s.waiting.used (one_made (rule_at T s 0)) (stepped T s 0)
  unfolding run
  by_number = refl

  run_none : s.waiting.used ≡ 0 → run T (suc steps) budget made s ≡ stopped ended made s
  run_none e = by_number ∙ ap (λ n. by_waiting n (one_made (rule_at T s 0)) (stepped T s 0)) e

  module _ (o : ℕ) (a : Answer) (h : 0 < s.waiting.used) (e : one_made (rule_at T s 0) ≡ o) (f : stepped T s 0 ≡ a) where
    run-head : run T (suc steps) budget made s ≡ by_head o a
    run-head = by_number ∙ (ap₂ (λ o a. by_waiting s.waiting.used o a) e f ∙ go s.waiting.used h)
      where
        go : (n : ℕ) → 0 < n → by_waiting n o a ≡ by_head o a
        go ℕ.zero p = absurd (omega arith)
        go (ℕ.suc n) p = refl

-- What a turn makes of it.
module _ (T : Table) (t : SoundTable T) (left : ℕ) (s : St) (h : Sound T s) (w : 0 < s.waiting.used) where
  wired_on : (k : Kept) (s' : St) → one_made (rule_at T s 0) ≡ 0 → stepped T s 0 ≡ moved s' → Right k s'
      → WentOn T left s (record { kept = k; left = left }) s'
  wired_on k s' e f r =
      record {
        runs = λ steps made. run-head T steps left made s 0 (moved s') w e f ∙ ap (λ m. run T steps left m s') (omega arith);
        sound = step_sound t h 0 f;
        right = r;
        few = omega arith;
      }

  fired_on : (k : Kept) (s' : St) (b : ℕ) → left ≡ suc b → one_made (rule_at T s 0) ≡ 1 → stepped T s 0 ≡ moved s' → Right k s'
      → WentOn T left s (record { kept = k; left = b }) s'
  fired_on k s' b q e f r =
      record {
        runs = λ steps made.
            run-head T steps left made s 1 (moved s') w e f
            ∙ (ap (λ l. spend T steps left made s l (moved s')) q ∙ ap (λ m. run T steps b m s') (omega arith));
        sound = step_sound t h 0 f;
        right = r;
        few = omega arith;
      }

  spent_on : left ≡ 0 → one_made (rule_at T s 0) ≡ 1 → (steps made : ℕ) → run T (suc steps) left made s ≡ stopped paused made s
  spent_on q e steps made =
      run-head T steps left made s 1 (stepped T s 0) w e refl ∙ ap (λ l. spend T steps left made s l (stepped T s 0)) q

  full_on : (one_made (rule_at T s 0) ≡ 0) ⊎ (0 < left) → stepped T s 0 ≡ refused 13 → (steps made : ℕ)
      → run T (suc steps) left made s ≡ stopped noroom made s
  full_on c f steps made = go (one_made (rule_at T s 0)) refl c
    where
      paid : (b : ℕ) → 0 < b → spend T steps left made s b (refused 13) ≡ stopped noroom made s
      paid ℕ.zero p = absurd (omega arith)
      paid (ℕ.suc b) p = refl

      go : (o : ℕ) → one_made (rule_at T s 0) ≡ o → (one_made (rule_at T s 0) ≡ 0) ⊎ (0 < left)
          → run T (suc steps) left made s ≡ stopped noroom made s
      go ℕ.zero e c = run-head T steps left made s 0 (refused 13) w e f
      go (ℕ.suc o) e (inl z) = absurd (omega arith)
      go (ℕ.suc o) e (inr p) = run-head T steps left made s (suc o) (refused 13) w e f ∙ paid left p

-- The ways out of a turn.
pub turn-ended : (T : Table) (left : ℕ) (s : St) (n : ℕ) → n ≡ s.waiting.used → n ≡ 0 → TurnAs T left s (Err Ended) s
unfolding TurnAs
turn-ended T left s n e q = (λ steps made. run_none T steps left made s (sym e ∙ q), refl)

pub head_steppable : (w : List ℕ) (s : St) (n : ℕ) → Turnable w s → n ≡ s.waiting.used → ¬ (n ≡ 0) → Steppable w s 0
head_steppable w s n f e q = record { given = f.given; sound = f.sound; waits = omega arith }

module _ (w : List ℕ) (left : ℕ) (s : St) (n : ℕ) (f : Turnable w s) (many : n ≡ s.waiting.used) (some : ¬ (n ≡ 0)) (o : Result Made Stop) (s' : St) (went : Went (under w) (ltb 0 left) s 0 o s') where
  waits : 0 < s.waiting.used
  waits = omega arith

  went_at : {o' : Result Made Stop} → o ≡ o' → Went (under w) (ltb 0 left) s 0 o' s'
  went_at e = subst (λ o. Went (under w) (ltb 0 left) s 0 o s') e went

  -- an interaction was paid for
  module _ (m : Made) (e : o ≡ Ok m) (less : ℕ) (paid : less ≡ bool_byte m.interacted) where
    pub left_fits : less ≤ left
    unfolding Went
    left_fits = go m.interacted paid (went_at e).0
      where
        go : (b : Bool) → less ≡ bool_byte b → Counted (one_made (rule_at (under w) s 0)) (ltb 0 left) b → less ≤ left
        go true q g = let h = ltb-true 0 left g.1 in omega arith
        go false q g = omega arith

    pub turn_on : TurnAs (under w) left s (Ok (record { kept = m.kept; left = left - less })) s'
    unfolding TurnAs Went
    turn_on = go m.interacted paid g.0
      where
        g : Went (under w) (ltb 0 left) s 0 (Ok m) s'
        g = went_at e

        go : (b : Bool) → less ≡ bool_byte b → Counted (one_made (rule_at (under w) s 0)) (ltb 0 left) b
            → WentOn (under w) left s (record { kept = m.kept; left = left - less }) s'
        go false q c =
            let z : left ≡ left - less = omega arith in
            subst (λ k. WentOn (under w) left s (record { kept = m.kept; left = k }) s') z
            (wired_on (under w) (given-sound w f.given) left s f.sound waits m.kept s' c g.1 g.2)
        go true q c =
            let b = ltb-true 0 left c.1 in
            fired_on (under w) (given-sound w f.given) left s f.sound waits m.kept s' (left - less) (omega arith) c.0 g.1 g.2

  pub turn_stopped : (e : Stop) → o ≡ Err e → TurnAs (under w) left s (Err e) s'
  unfolding TurnAs Went
  turn_stopped Ended e = absurd (went_at e)
  turn_stopped Paused e =
      let g = went_at e in
      let b = ltb-false 0 left g.1 in
      (spent_on (under w) (given-sound w f.given) left s f.sound waits (omega arith) g.0, g.2)
  turn_stopped NoRoom e =
      let g = went_at e in
      (full_on (under w) (given-sound w f.given) left s f.sound waits (may g.0) g.1, g.2)
    where
      may : (one_made (rule_at (under w) s 0) ≡ 0) ⊎ (ltb 0 left ≡ true) → (one_made (rule_at (under w) s 0) ≡ 0) ⊎ (0 < left)
      may (inl e) = inl e
      may (inr e) = inr (ltb-true 0 left e)
