-- Calls of step and run as a walk of the model, and when calls without end come to where nothing waits.
use Rattle.std.specs.Prelude.{ℕ, suc, ◌+◌, ◌<◌, ◌≡◌, List, [], ◌++◌, ◌⊎◌, length, Ok, Err}
use Rattle.std.proofs.Math.Path.{refl}
use Rattle.std.proofs.Common.{sym, ap, subst, inl, inr, length-append}
use native.Mathlib.Omega.{arith}
use Rattle.calculus.specs.Terms.{δ, count}
use Rattle.calculus.proofs.Beneath.Count.{sum-append}
use Rattle.model.specs.State.{St}
use Rattle.model.specs.Table.{Table, Found}
use Rattle.model.specs.Step.{moved, rule_at}
use Rattle.model.specs.Stepped.{stepped}
use Rattle.model.proofs.Kept.{walk_sound}
use Rattle.model.specs.Walk.{Walk, stay, take, made_in, one_use, ended, paused, noroom}
use Rattle.model.specs.Agree.{steps_in, uses_in}
use Rattle.state.specs.Layout.{view}
use Rattle.sound.specs.Lent.{under}
use Rattle.lent.specs.Both.{BothSound, table-given, sound_table_lem, sound-state, both_of}
use Rattle.parts.specs.declared.faults.Fault.TheVariants as Why
use Rattle.machine.specs.Turns.{stop_of}
use Rattle.review.specs.Answers.{StepAnswer, RunAnswer}
use Rattle.review.specs.Promises.{StepCall, RunCall}
use Rattle.review.specs.Picks.{fires, Picks, Call, Moves, Calls, first_picks, stop_answer}
use Rattle.review.proofs.Beneath.Made.{fires-made, run-steps}
use Rattle.review.proofs.Beneath.Steps.{StepIf, step_exactly, step_went, step_kept, step_sound_after, RunIf, if_refused, if_stops, run_exactly, run-kept, run-went}
use Rattle.review.proofs.Beneath.Told.{told-stop, run_named}

-- A walk that fires some rules.
pub record WalkOf (T : Table) (s : St) (is : List ℕ) (s' : St) : Type 0 where
  pub walk : Walk T s s'
  pub made_same : made_in walk ≡ length is
  pub uses_same : (i : ℕ) → uses_in i walk ≡ count i is

fires-uses : (i : ℕ) (r : Found) → count i (fires r) ≡ one_use i r
fires-uses i Found.none = refl
fires-uses i (Found.straight j e) = omega arith
fires-uses i (Found.turned j e) = omega arith

module _ {T : Table} where
  none_fired : {s : St} → WalkOf T s [] s
  unfolding made_in uses_in
  none_fired = record { walk = stay; made_same = refl; uses_same = λ i. refl }

  one_fired : {s s' : St} (p : ℕ) → stepped T s p ≡ moved s' → WalkOf T s (fires (rule_at T s p)) s'
  unfolding made_in uses_in
  one_fired {s} p e =
      record {
        walk = take p e stay;
        made_same = omega (arith, fires-made (rule_at T s p));
        uses_same = λ i. omega (arith, fires-uses i (rule_at T s p));
      }

  then : {s s' s'' : St} → Walk T s s' → Walk T s' s'' → Walk T s s''
  then stay k = k
  then (take p e w) k = take p e (then w k)

  made_then : {s s' s'' : St} (w : Walk T s s') (k : Walk T s' s'') → made_in (then w k) ≡ made_in w + made_in k
  unfolding made_in then
  made_then stay k = omega arith
  made_then (take p e w) k = omega (arith, made_then w k)

  uses-then : (i : ℕ) {s s' s'' : St} (w : Walk T s s') (k : Walk T s' s'') → uses_in i (then w k) ≡ uses_in i w + uses_in i k
  unfolding uses_in then
  uses-then i stay k = omega arith
  uses-then i (take p e w) k = omega (arith, uses-then i w k)

  all_fired : {s s' s'' : St} {is js : List ℕ} → WalkOf T s is s' → WalkOf T s' js s'' → WalkOf T s (is ++ js) s''
  all_fired {is = is} {js = js} x y =
      record {
        walk = then x.walk y.walk;
        made_same = omega (arith, made_then x.walk y.walk, x.made_same, y.made_same, length-append is js);
        uses_same = λ i. omega (arith, uses-then i x.walk y.walk, x.uses_same i, y.uses_same i, sum-append (δ i) is js);
      }

pub picks_walk : {w v ps is v' : List ℕ} → Picks w v ps is v' → WalkOf (under w) (view v) is (view v')
picks_walk Picks.none = none_fired
picks_walk (Picks.more {p = p} c m) = all_fired (one_fired p (step_went c).2) (picks_walk m)

pub picks-steps : {w v ps is v' : List ℕ} (m : Picks w v ps is v') → steps_in (picks_walk m).walk ≡ length ps
unfolding picks_walk none_fired one_fired all_fired then steps_in
picks-steps Picks.none = refl
picks-steps (Picks.more c m) = ap suc (picks-steps m)

-- What a refused call leaves looks as before.
nothing-fired : {T : Table} {s s' : St} → s' ≡ s → WalkOf T s [] s'
nothing-fired {T} {s} e = subst (WalkOf T s []) (sym e) none_fired

pub call-walk : {w v is v' : List ℕ} → Call w v is v' → WalkOf (under w) (view v) is (view v')
call-walk (Call.step {p = p} c) = one_fired p (step_went c).2
call-walk (Call.step_refused c n) = nothing-fired (step_kept c n)
call-walk {w} {v} (Call.run c s) = subst (WalkOf (under w) (view v) s.fired) s.there (picks_walk s.picks)
call-walk (Call.run_refused c r) = nothing-fired (run-kept c r)

pub moves_walk : {w v is v' : List ℕ} → Moves w v is v' → WalkOf (under w) (view v) is (view v')
moves_walk Moves.none = none_fired
moves_walk (Moves.more c m) = all_fired (call-walk c) (moves_walk m)

pub walk_keeps : {w v is v' : List ℕ} → BothSound w v → WalkOf (under w) (view v) is (view v') → BothSound w v'
walk_keeps {w} {v} {v' = v'} h x = both_of w v' (table-given h) (walk_sound (sound_table_lem h) (sound-state h) x.walk)

pub moves-sound : {w v is v' : List ℕ} → BothSound w v → Moves w v is v' → BothSound w v'
moves-sound h m = walk_keeps h (moves_walk m)

-- Each call of step and of run is one of these calls.
pub step_call : {w v : List ℕ} {p : ℕ} {r : StepAnswer} {v' : List ℕ} → StepCall w v p r v' → (is : List ℕ) × Call w v is v'
step_call {r = Ok u} c = (_, Call.step c)
step_call {r = Err f} c = ([], Call.step_refused c (λ e. absurd (let z : ◌≡◌ {A = ℕ} 0 1 = cc in omega arith)))

pub run_call : {w v : List ℕ} {budget : ℕ} {r : RunAnswer} {v' : List ℕ} → RunCall w v budget r v' → (is : List ℕ) × Call w v is v'
run_call {w = w} {v = v} {budget = budget} {r = Err f} c = ([], Call.run_refused c (if_refused w v budget ((run_exactly c (Err f)).0 refl)))
run_call {w = w} {v = v} {budget = budget} {r = Ok x} {v' = v'} c =
    let t = stop_of x.stop in
    let k = subst (λ q. RunCall w v budget q v') (sym (run_named x)) c in
    let s = run-steps k t x.made (told-stop t x.made) in (s.fired, Call.run {t = t} {n = x.made} k s)

lent-run : {w v : List ℕ} {budget : ℕ} {r : RunAnswer} {v' : List ℕ} → RunCall w v budget r v' → ¬ (r ≡ Err Why.Unsound)
    → BothSound w v
lent-run {w} {v} {budget} {r} c n = go ((run_exactly c r).0 refl) n
  where
    go : {q : RunAnswer} → RunIf w v budget q → ¬ (q ≡ Err Why.Unsound) → BothSound w v
    go (RunIf.unsound h) n = absurd (n refl)
    go (RunIf.too_much (h, o)) n = h
    go (RunIf.stops x i) n = i.0

pub run-sound_after : {w v : List ℕ} {budget : ℕ} {r : RunAnswer} {v' : List ℕ} → RunCall w v budget r v' → ¬ (r ≡ Err Why.Unsound)
    → BothSound w v'
run-sound_after c n = walk_keeps (lent-run c n) (call-walk (run_call c).1)

-- Of calls without end: after some of them nothing waits, or all of the first so many were answered Ok.
pub record Stops (w : List ℕ) (f : ℕ → ℕ) (vs : ℕ → List ℕ) : Type 0 where
  pub after : ℕ
  pub nothing_waits : (view (vs after)).waiting.used ≡ 0
  pub fired : List ℕ
  pub picks : Picks w (vs 0) (first_picks f after) fired (vs after)

-- The first so many calls are all made.
abbrev pub Goes : List ℕ → (ℕ → ℕ) → (ℕ → List ℕ) → ℕ → Type 0
Goes w f vs k = (is : List ℕ) × Picks w (vs 0) (first_picks f k) is (vs k)

pub stop_or_go : {w : List ℕ} (fuel : ℕ) {f : ℕ → ℕ} {r : ℕ → StepAnswer} (vs : ℕ → List ℕ) → BothSound w (vs 0)
    → Calls w f r vs → Stops w f vs ⊎ Goes w f vs fuel
stop_or_go ℕ.zero vs h c = inr ([], Picks.none)
stop_or_go {w} (ℕ.suc fuel) {f} {r} vs h c =
    go (λ k. stop_or_go fuel {f = λ i. f (suc i)} {r = λ i. r (suc i)} (λ i. vs (suc i)) (step_sound_after k) rest) (view (vs 0)).waiting.used refl
  where
    rest : Calls w (λ i. f (suc i)) (λ i. r (suc i)) (λ i. vs (suc i))
    rest = record { call = λ i. c.call (suc i); picks = λ i. c.picks (suc i); room = λ i. c.room (suc i) }

    Rest : Type 0
    Rest = Stops w (λ i. f (suc i)) (λ i. vs (suc i)) ⊎ Goes w (λ i. f (suc i)) (λ i. vs (suc i)) fuel

    step : 0 < (view (vs 0)).waiting.used → StepCall w (vs 0) (f 0) (Ok tt) (vs 1)
    step o =
        let k = c.call 0 in
        subst
        (λ q. StepCall w (vs 0) (f 0) q (vs 1))
        ((step_exactly k (Ok tt)).1 (StepIf.moves (h, c.picks 0 o, λ n. c.room 0 ((step_exactly k (Err Why.NoRoom)).1 (StepIf.no_room (h, c.picks 0 o, n))))))
        k

    on : (k : StepCall w (vs 0) (f 0) (Ok tt) (vs 1)) → Rest → Stops w f vs ⊎ Goes w f vs (suc fuel)
    on k (inl s) =
        inl (record { after = suc s.after; nothing_waits = s.nothing_waits; fired = _; picks = Picks.more k s.picks })
    on k (inr m) = inr (_, Picks.more k m.1)

    go : (StepCall w (vs 0) (f 0) (Ok tt) (vs 1) → Rest) → (n : ℕ) → (view (vs 0)).waiting.used ≡ n
        → Stops w f vs ⊎ Goes w f vs (suc fuel)
    go then ℕ.zero e = inl (record { after = 0; nothing_waits = e; fired = []; picks = Picks.none })
    go then (ℕ.suc n) e = let k = step (omega (arith, e)) in on k (then k)

pub picks-long : (f : ℕ → ℕ) (k : ℕ) → length (first_picks f k) ≡ k
picks-long f ℕ.zero = refl
picks-long f (ℕ.suc k) = ap suc (picks-long (λ i. f (suc i)) k)
