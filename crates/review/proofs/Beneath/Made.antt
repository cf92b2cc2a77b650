-- A run made by calls of step, on lent arrays; and calls without end that begin with such calls.
use Rattle.std.specs.Prelude.{ℕ, suc, ◌-◌, ◌<◌, List, [], ◌++◌, length, Ok, Err}
use Rattle.std.proofs.Math.Path.{◌≡◌, refl, subst}
use Rattle.std.proofs.Common.{sym, ap, ◌∙◌, arith, length-append}
use Rattle.model.specs.State.{St}
use Rattle.model.specs.Table.{Found}
use Rattle.model.specs.Step.{moved, rule_at}
use Rattle.model.specs.Stepped.{stepped}
use Rattle.model.proofs.Kept.{step_sound, walk_sound}
use Rattle.model.proofs.Stopped.{refused_12, refused_13, run_is_right}
use Rattle.model.specs.Walk.{Walk, stay, take, one_made, made_in, AtHead, Stop, ended, paused, noroom}
use Rattle.model.specs.Agree.{steps_in}
use Rattle.model.specs.Walk as Agree
use Rattle.model.specs.Run.{ran}
use Rattle.state.specs.Layout.{view}
use Rattle.sound.specs.Lent.{under}
use Rattle.lent.specs.Both.{BothSound, table-given, sound_table_lem, sound-state, both_of}
use Rattle.machine.specs.Calls.{out, answered, stopped, run_told}
use Rattle.machine.specs.Calls as Calls
use Rattle.parts.specs.declared.faults.Fault.TheVariants as Why
use Rattle.review.specs.Answers.{StepAnswer, RunAnswer}
use Rattle.review.specs.Promises.{StepCall, RunCall}
use Rattle.review.proofs.Beneath.Arrays.{array_of, view_of_array}
use Rattle.review.specs.Picks.{fires, Picks, first_picks, Because, RunSteps, Calls}
use Rattle.review.proofs.Beneath.Steps.{step-asked, step_went, step_sound_after, run-went}

-- A rule fired is an interaction made.
pub fires-made : (r : Found) → length (fires r) ≡ one_made r
fires-made Found.none = refl
fires-made (Found.straight i e) = refl
fires-made (Found.turned i e) = refl

-- Arrays that make a walk by picks 0.
pub record ByCalls (w v : List ℕ) {s s' : St} (k : Walk (under w) s s') : Type 0 where
  pub last : List ℕ
  pub there : view last ≡ s'
  pub fired : List ℕ
  pub picks : Picks w v (first_picks (λ i. 0) (steps_in k)) fired last
  pub as_many : length fired ≡ made_in k

one_call : (w v : List ℕ) (p : ℕ) (s : St) → BothSound w v → stepped (under w) (view v) p ≡ moved s
    → (view (array_of s) ≡ s) × StepCall w v p (Ok tt) (array_of s)
one_call w v p s h e =
    let q = view_of_array s (step_sound (sound_table_lem h) (sound-state h) p e).sizes in
    (q, record { promised = ap (out Calls.made) q ∙ sym (step-asked w v p h ∙ ap (λ a. answered a (view v)) e) })

pub by_calls : {w : List ℕ} {s s' : St} (k : Walk (under w) s s') → AtHead k → (v : List ℕ) → view v ≡ s → BothSound w v
    → ByCalls w v k
unfolding made_in steps_in
by_calls stay z v q h = record { last = v; there = q; fired = []; picks = Picks.none; as_many = refl }
by_calls {w} (take {s = s} {s' = s₁} p e k) z v q h =
    let c = one_call w v 0 s₁ h (rw (q, ← z.0) e) in
    let r = by_calls k z.1 (array_of s₁) c.0 (step_sound_after c.1) in
    record {
      last = r.last;
      there = r.there;
      fired = fires (rule_at (under w) (view v) 0) ++ r.fired;
      picks = Picks.more c.1 r.picks;
      as_many =
          length-append (fires (rule_at (under w) (view v) 0)) r.fired
          ∙ rw (fires-made (rule_at (under w) (view v) 0), q, z.0, r.as_many);
    }

-- A run that was not refused.
because : {w v : List ℕ} (unspent : ℕ) (t : Stop) → BothSound w v → Agree.Because (under w) unspent (view v) t
    → Because w v unspent t
because unspent ended h b = b
because {w} {v} unspent paused h (o, l, e) = (o, fires-made (rule_at (under w) (view v) 0) ∙ l, e)
because {w} {v} unspent noroom h (o, l, e) =
    (o, omega (arith, l, fires-made (rule_at (under w) (view v) 0)), ((refused_13 (sound-state h) 0).0 e).1)

stops_so : {w v v' : List ℕ} {budget : ℕ} (t : Stop) (n : ℕ) (h : BothSound w v) → t ≡ (ran (under w) budget (view v)).stop
    → n ≡ (ran (under w) budget (view v)).made → view v' ≡ (ran (under w) budget (view v)).state
    → RunSteps w v budget t n v'
stops_so {w} {v} {v'} {budget} t n h a b q =
    let k = run_is_right (sound_table_lem h) budget (sound-state h) in
    let m = by_calls k.walk k.at_head v refl h in
    let s = both_of w v' (table-given h) (rw q (walk_sound (sound_table_lem h) (sound-state h) k.walk)) in
    record {
      steps = steps_in k.walk;
      fired = m.fired;
      last = m.last;
      picks = m.picks;
      there = m.there ∙ sym q;
      interactions = m.as_many ∙ sym k.made ∙ sym b;
      within = rw b k.within;
      because = because (budget - n) t s (rw (a, b, q) k.because);
    }

pub run-steps : {w v : List ℕ} {budget : ℕ} {r : RunAnswer} {v' : List ℕ} → RunCall w v budget r v' → (t : Stop) (n : ℕ)
    → run_told r ≡ stopped t n → RunSteps w v budget t n v'
run-steps c t n e = let k = run-went c t n e in stops_so t n k.0 k.1 k.2 k.3

-- Calls that go on after the end: each picks 0, is answered NoPick and leaves the state.
module _ {w : List ℕ} where
  pub pick_at : {v ps is v' : List ℕ} → Picks w v ps is v' → ℕ → ℕ
  pick_at Picks.none k = 0
  pick_at (Picks.more {p = p} c m) ℕ.zero = p
  pick_at (Picks.more c m) (ℕ.suc k) = pick_at m k

  pub answer_at : {v ps is v' : List ℕ} → Picks w v ps is v' → ℕ → StepAnswer
  answer_at Picks.none k = Err Why.NoPick
  answer_at (Picks.more c m) ℕ.zero = Ok tt
  answer_at (Picks.more c m) (ℕ.suc k) = answer_at m k

  pub state_at : {v ps is v' : List ℕ} → Picks w v ps is v' → ℕ → List ℕ
  state_at {v = v} Picks.none k = v
  state_at {v = v} (Picks.more c m) ℕ.zero = v
  state_at (Picks.more c m) (ℕ.suc k) = state_at m k

  begins : {v ps is v' : List ℕ} (m : Picks w v ps is v') → state_at m 0 ≡ v
  unfolding state_at
  begins Picks.none = refl
  begins (Picks.more c m) = refl

  idle : (v : List ℕ) → BothSound w v → (view v).waiting.used ≡ 0 → StepCall w v 0 (Err Why.NoPick) v
  idle v h e =
      record {
        promised =
            sym (step-asked w v 0 h ∙ ap (λ a. answered a (view v)) ((refused_12 (under w) (view v) 0).1 (omega (arith, e))));
      }

  call_at : {v ps is v' : List ℕ} (m : Picks w v ps is v') → BothSound w v → (view v').waiting.used ≡ 0 → (k : ℕ)
      → StepCall w (state_at m k) (pick_at m k) (answer_at m k) (state_at m (suc k))
  unfolding state_at pick_at answer_at
  call_at {v = v} Picks.none h e k = idle v h e
  call_at {v = v} (Picks.more {p = p} c m) h e ℕ.zero = subst (λ u. StepCall w v p (Ok tt) u) (sym (begins m)) c
  call_at (Picks.more c m) h e (ℕ.suc k) = call_at m (step_sound_after c) e k

  picks_at : {v ps is v' : List ℕ} (m : Picks w v ps is v') → (view v').waiting.used ≡ 0 → (k : ℕ)
      → 0 < (view (state_at m k)).waiting.used → pick_at m k < (view (state_at m k)).waiting.used
  unfolding state_at pick_at
  picks_at Picks.none e k o = absurd (omega (arith, e, o))
  picks_at (Picks.more c m) e ℕ.zero o = (step_went c).1
  picks_at (Picks.more c m) e (ℕ.suc k) o = picks_at m e k o

  room_at : {v ps is v' : List ℕ} (m : Picks w v ps is v') (k : ℕ) → ¬ (answer_at m k ≡ Err Why.NoRoom)
  unfolding answer_at
  room_at Picks.none k q = absurd (let z : ◌≡◌ {A = ℕ} 0 1 = cc in omega arith)
  room_at (Picks.more c m) ℕ.zero q = absurd (let z : ◌≡◌ {A = ℕ} 0 1 = cc in omega arith)
  room_at (Picks.more c m) (ℕ.suc k) q = room_at m k q

  -- So the calls of `it-ends` can be made wherever some calls come to where nothing waits.
  pub calls_on : {v ps is v' : List ℕ} (m : Picks w v ps is v') → BothSound w v → (view v').waiting.used ≡ 0
      → (state_at m 0 ≡ v) × Calls w (pick_at m) (answer_at m) (state_at m)
  calls_on m h e = (begins m, record { call = call_at m h e; picks = picks_at m e; room = room_at m })
