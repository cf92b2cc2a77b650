-- A run of a sound state: it is never refused, it leaves a sound state, and what is printed of it.
use Rattle.std.proofs.Common.{ℕ, ◌<◌, ◌≡◌, refl, sym, ap, ◌∙◌, subst, List, arith, Result, Ok, Err}
use native.Mathlib.Decide.{dec_lt}
use Rattle.parts.specs.Limits.{budget_max}
use Rattle.model.specs.Walk.{Stopped, Because, Stop, ended, paused, noroom}
use Rattle.model.specs.Walk as Model
use Rattle.model.proofs.Kept.{walk_sound}
use Rattle.model.specs.Run.{ran}
use Rattle.model.specs.Sound.{Sound}
use Rattle.model.proofs.Stopped.{run_is_right}
use Rattle.table.specs.Layout.{agents_in}
use Rattle.state.specs.Layout.{view}
use Rattle.sound.specs.Lent.{under}
use Rattle.lent.specs.Both.{BothSound, sound_table_lem, sound-state, table-given, both_of}
use Rattle.lent.specs.Decided.{where_sound}
use Rattle.machine.specs.Calls.{stopped, number, Out, out, run_told, stood, ran_out, run_called}
use Rattle.machine.specs.declared.calls.Ran.{Ran}
use Rattle.machine.specs.declared.outcome.Stop.{Stop as Stopping}
use Rattle.machine.specs.declared.outcome.Stop.TheVariants.{Ended, Paused, NoRoom}
use Rattle.parts.specs.declared.faults.Fault.{Fault}
use Rattle.answers.specs.Printer.{state_answer}
use Rattle.report.specs.Begun.{Begun}
use Rattle.report.specs.Firsts.{word_paused, word_noroom}
use Rattle.report.specs.Firsts as First
use Rattle.evaluation.specs.Evaluated.{budget, ending, stopping, running}
use Rattle.evaluation.specs.Printed.{Printed, Endable}

pub begun-printed : {bs o o' : List ℕ} {r : ℕ} → Begun bs o r o' → Printed bs o r o'
begun-printed b = record { puts = b.puts; within = omega (arith, b.within) }

never : {A : Type 0} {n m : ℕ} {s : Stop} → number n ≡ stopped s m → A
never e = absurd (let z : ◌≡◌ {A = ℕ} 0 1 = cc in omega arith)

-- The run of a sound state is the model's.
module _ {w v : List ℕ} (h : BothSound w v) where
  run_is : run_called w v budget ≡ stood (ran (under w) budget (view v))
  unfolding run_called ran_out
  run_is =
      where_sound w v _ _ h ∙ go (dec_lt budget_max budget)
    where
      go : (d : Dec (budget_max < budget))
          → elim d as (λ _. Out) [ yes h ↦ out (number 17) (view v) | no h ↦ stood (ran (under w) budget (view v)) ]
          ≡ stood (ran (under w) budget (view v))
      go (yes k) = absurd (omega arith)
      go (no k) = refl

  right : Stopped (under w) budget (view v) (ran (under w) budget (view v))
  right = run_is_right (sound_table_lem h) budget (sound-state h)

  -- What the call told and left, in the words of the run.
  module _ (r : Result Ran Fault) (v' : List ℕ) (e : out (run_told r) (view v') ≡ run_called w v budget) where
    told_is : run_told r ≡ stopped (ran (under w) budget (view v)).stop (ran (under w) budget (view v)).made
    told_is = ap (λ x. x.told) (e ∙ run_is)

    state_is : view v' ≡ (ran (under w) budget (view v)).state
    state_is = ap (λ x. x.state) (e ∙ run_is)

    after_sound : BothSound w v'
    after_sound =
        both_of w v' (table-given h)
        (subst (Sound (under w)) (sym state_is) (walk_sound (sound_table_lem h) (sound-state h) right.walk))

    -- One law for each way out of the run. The first line is told of the state that the run left.
    paused_is : (n : ℕ) → r ≡ Ok (record { stop = Paused; made = n }) → running (agents_in w) (under w) (ran (under w) budget (view v)) ≡ First.stopped word_paused n (view v').loops
    unfolding running
    paused_is n q = by (ran (under w) budget (view v)) (ap run_told (sym q) ∙ told_is) (sym state_is)
      where
        by : (x : Model.Ran) → stopped paused n ≡ stopped x.stop x.made → x.state ≡ view v'
            → stopping (agents_in w) (under w) x.stop x.made x.state ≡ First.stopped word_paused n (view v').loops
        by x t s = let a : x.stop ≡ paused = cc in let b : x.made ≡ n = cc in rw (a, b, s)

    noroom_is : (n : ℕ) → r ≡ Ok (record { stop = NoRoom; made = n }) → running (agents_in w) (under w) (ran (under w) budget (view v)) ≡ First.stopped word_noroom n (view v').loops
    unfolding running
    noroom_is n q = by (ran (under w) budget (view v)) (ap run_told (sym q) ∙ told_is) (sym state_is)
      where
        by : (x : Model.Ran) → stopped noroom n ≡ stopped x.stop x.made → x.state ≡ view v'
            → stopping (agents_in w) (under w) x.stop x.made x.state ≡ First.stopped word_noroom n (view v').loops
        by x t s = let a : x.stop ≡ noroom = cc in let b : x.made ≡ n = cc in rw (a, b, s)

    ended_is : (n : ℕ) → r ≡ Ok (record { stop = Ended; made = n })
        → running (agents_in w) (under w) (ran (under w) budget (view v)) ≡ ending (agents_in w) n (state_answer (under w) (view v'))
    unfolding running
    ended_is n q = by (ran (under w) budget (view v)) (ap run_told (sym q) ∙ told_is) (sym state_is)
      where
        by : (x : Model.Ran) → stopped ended n ≡ stopped x.stop x.made → x.state ≡ view v'
            → stopping (agents_in w) (under w) x.stop x.made x.state ≡ ending (agents_in w) n (state_answer (under w) (view v'))
        by x t s = let a : x.stop ≡ ended = cc in let b : x.made ≡ n = cc in rw (a, b, s)

    nothing_waits : (n : ℕ) → r ≡ Ok (record { stop = Ended; made = n }) → (view v').waiting.used ≡ 0
    nothing_waits n q = by (ran (under w) budget (view v)) _ right.because (ap run_told (sym q) ∙ told_is) state_is
      where
        by : (x : Model.Ran) (l : ℕ) → Because (under w) l x.state x.stop → stopped ended n ≡ stopped x.stop x.made → view v' ≡ x.state
            → (view v').waiting.used ≡ 0
        by x l b t s =
            let a : x.stop ≡ ended = cc in
            ap (λ s. s.waiting.used) s ∙ subst (Because (under w) l x.state) a b

-- The same with the premises as the code has them.
module _ (w v v' : List ℕ) (h : BothSound w v) (a : Result Ran Fault) (e : out (run_told a) (view v') ≡ run_called w v budget) where
  module _ (x : Ran) (q : a ≡ Ok x) where
    stopped_for : {t : Stopping} → x.stop ≡ t → a ≡ Ok (record { stop = t; made = x.made })
    stopped_for g = q ∙ ap (λ t. Ok (record { stop = t; made = x.made })) g

    pub stop-ready : x.stop ≡ Ended → Endable w v'
    stop-ready g =
        record { sound = after_sound h a v' e; waits = nothing_waits h a v' e x.made (stopped_for g) }

    module _ (m r : ℕ) (o o' : List ℕ) where
      pub stop-ended : x.stop ≡ Ended → Printed (ending (agents_in w) x.made (state_answer (under w) (view v'))) o r o'
          → Printed (running (agents_in w) (under w) (ran (under w) budget (view v))) o r o'
      stop-ended g p = subst (λ l. Printed l o r o') (sym (ended_is h a v' e x.made (stopped_for g))) p

      pub stop-paused : x.stop ≡ Paused → m ≡ (view v').loops → Begun (First.stopped word_paused x.made m) o r o'
          → Printed (running (agents_in w) (under w) (ran (under w) budget (view v))) o r o'
      stop-paused g f p =
          subst (λ l. Printed l o r o') (sym (paused_is h a v' e x.made (stopped_for g) ∙ ap (First.stopped word_paused x.made) (sym f))) (begun-printed p)

      pub stop-noroom : x.stop ≡ NoRoom → m ≡ (view v').loops → Begun (First.stopped word_noroom x.made m) o r o'
          → Printed (running (agents_in w) (under w) (ran (under w) budget (view v))) o r o'
      stop-noroom g f p =
          subst (λ l. Printed l o r o') (sym (noroom_is h a v' e x.made (stopped_for g) ∙ ap (First.stopped word_noroom x.made) (sym f))) (begun-printed p)

  -- Of a sound state, the run is not refused.
  pub not_refused : (bs o o' : List ℕ) (r : ℕ) (f : Fault) → a ≡ Err f → Printed bs o r o'
  not_refused bs o o' r f q = never (ap run_told (sym q) ∙ told_is h a v' e)
