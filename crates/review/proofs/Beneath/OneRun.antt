-- A run is determined: from one state, with one budget, picks 0 come to one stop.
use Rattle.std.specs.Prelude.{length, ℕ, ◌+◌, ◌-◌, ◌≤◌, ◌<◌, ◌≡◌, refl, List, ◌↔◌, Err}
use Rattle.std.proofs.Common.{length-append, sym, ap, ap₂, subst, ◌∙◌, arith}
use Rattle.std.proofs.Math.Decide.{dec_lt}
use Rattle.parts.specs.Limits.{budget_max}
use Rattle.model.specs.State.{St}
use Rattle.model.specs.Table.{Table}
use Rattle.model.specs.Step.{moved, refused, rule_at}
use Rattle.model.specs.Stepped.{stepped}
use Rattle.model.proofs.Stopped.{refused_12, refused_13, run_is_right}
use Rattle.model.specs.Walk.{Walk, stay, take, one_made, made_in, AtHead, Stop, ended, paused, noroom}
use Rattle.model.specs.Walk as Model
use Rattle.model.specs.Run.{ran}
use Rattle.state.specs.Layout.{view}
use Rattle.sound.specs.Lent.{under}
use Rattle.lent.specs.Both.{BothSound, table-given, sound_table_lem, sound-state, both_of}
use Rattle.machine.specs.Calls.{number, stopped, out, run_told, ran_out}
use Rattle.parts.specs.declared.faults.Fault.TheVariants as Why
use Rattle.review.specs.Answers.{RunAnswer}
use Rattle.review.specs.Promises.{RunCall}
use Rattle.review.specs.Picks.{fires, Picks, first_picks, Because, RunSteps}
use Rattle.review.proofs.Beneath.Steps.{step_went, run-asked, RunIf, run_exactly, run-went}
use Rattle.review.proofs.Beneath.Walking.{picks_walk, walk_keeps}
use Rattle.review.proofs.Beneath.Made.{fires-made, run-steps}

module _ (T : Table) (s : St) where
  -- Of a step one thing comes.
  moved_not : {A : Type 0} {a : St} {n : ℕ} → stepped T s 0 ≡ moved a → stepped T s 0 ≡ refused n → A
  moved_not e f = absurd (let z : ◌≡◌ {A = ℕ} 0 1 = cc in omega arith)

  same_moved : {a b : St} → stepped T s 0 ≡ moved a → stepped T s 0 ≡ moved b → a ≡ b
  same_moved e f = cc

  module _ (left : ℕ) where
    -- Where there is a reason to stop, no step is made.
    no_step : {A : Type 0} {a : St} (t : Stop) → Model.Because T left s t → one_made (rule_at T s 0) ≤ left
        → stepped T s 0 ≡ moved a → A
    no_step ended b o e = moved_not e ((refused_12 T s 0).1 (omega (arith, b)))
    no_step paused b o e = absurd (omega (arith, b.1, b.2, o))
    no_step noroom b o e = moved_not e b.2

    -- The three reasons exclude each other.
    one_reason : (t u : Stop) → Model.Because T left s t → Model.Because T left s u → t ≡ u
    one_reason ended ended b c = refl
    one_reason ended paused b c = absurd (omega (arith, b, c.0))
    one_reason ended noroom b c = absurd (omega (arith, b, c.0))
    one_reason paused ended b c = absurd (omega (arith, b.0, c))
    one_reason paused paused b c = refl
    one_reason paused noroom b c = absurd (omega (arith, b.1, b.2, c.1))
    one_reason noroom ended b c = absurd (omega (arith, b.0, c))
    one_reason noroom paused b c = absurd (omega (arith, c.1, c.2, b.1))
    one_reason noroom noroom b c = refl

-- A walk by picks 0, within the budget, to where there is a reason to stop.
pub record Halts {T : Table} {s a : St} (k : Walk T s a) (budget : ℕ) (t : Stop) : Type 0 where
  pub at_head : AtHead k
  pub within : made_in k ≤ budget
  pub because : Model.Because T (budget - made_in k) a t

-- After its first step it is one with what that leaves of the budget.
after_first : {T : Table} {s a b : St} {p budget : ℕ} {t : Stop} (e : stepped T s p ≡ moved a) (k : Walk T a b)
    → Halts (take p e k) budget t
    → (one_made (rule_at T s 0) ≤ budget) × (stepped T s 0 ≡ moved a) × Halts k (budget - one_made (rule_at T s 0)) t
unfolding made_in
after_first {T} {s} {a} {b} {p} {budget} {t} e k h =
    let n = one_made (rule_at T s 0) in
    let m : one_made (rule_at T s p) ≡ n = ap (λ q. one_made (rule_at T s q)) h.at_head.0 in (
      omega (arith, m, h.within),
      rw h.at_head.0 at e,
      record {
        at_head = h.at_head.1;
        within = omega (arith, m, h.within);
        because =
            let q : budget - (one_made (rule_at T s p) + made_in k) ≡ budget - n - made_in k = omega (arith, m) in
            subst (λ l. Model.Because T l b t) q h.because;
      },
    )

-- Two such walks from one state come to one end.
pub one_end : {T : Table} {s r a b : St} → s ≡ r → (k : Walk T s a) (l : Walk T r b) {budget : ℕ} {t u : Stop}
    → Halts k budget t → Halts l budget u → (t ≡ u) × (made_in k ≡ made_in l) × (a ≡ b)
unfolding made_in
one_end {T} {s} q stay stay {budget} {t} {u} h i =
    (one_reason T s (budget - 0) t u h.because (rw (← q) at i.because), refl, q)
one_end {T} {s} {r} q stay (take p e l) {budget} {t} h i =
    let z = after_first e l i in
    no_step T r (budget - 0) t (subst (λ x. Model.Because T (budget - 0) x t) q h.because) (omega (arith, z.0)) z.1
one_end {T} {s} {r} q (take p e k) stay {budget} {u = u} h i =
    let z = after_first e k h in
    no_step T s (budget - 0) u (subst (λ x. Model.Because T (budget - 0) x u) (sym q) i.because) (omega (arith, z.0)) z.1
one_end {T} {s} {r} q (take {s' = c} p e k) (take o f l) {budget} {t} h i =
    let z = after_first e k h in
    let y = after_first f l i in
    let w =
    one_end
    (same_moved T r (subst (λ x. stepped T x 0 ≡ moved c) q z.1) y.1)
    k
    l
    (subst (λ x. Halts k (budget - one_made (rule_at T x 0)) t) q z.2)
    y.2 in
    (w.0, rw (h.at_head.0, i.at_head.0, q, w.1), w.2)

-- Calls of step by picks 0 as such a walk.
record HeadWalk (w v v' : List ℕ) (n : ℕ) : Type 0 where
  walk : Walk (under w) (view v) (view v')
  at_head : AtHead walk
  as_many : made_in walk ≡ n

head_walk : {w v ps is v' : List ℕ} (m : Picks w v ps is v') (k : ℕ) → ps ≡ first_picks (λ i. 0) k
    → HeadWalk w v v' (length is)
unfolding made_in
head_walk Picks.none k e = record { walk = stay; at_head = tt; as_many = refl }
head_walk (Picks.more {p = p} c m) ℕ.zero e = absurd (let z : ◌≡◌ {A = ℕ} 0 1 = cc in omega arith)
head_walk {w} {v} (Picks.more {is = is} {p = p} c m) (ℕ.suc k) e =
    let r = head_walk m k (cc) in
    let f = rule_at (under w) (view v) p in
    record {
      walk = take p (step_went c).2 r.walk;
      at_head = (cc, r.at_head);
      as_many = omega (arith, r.as_many, fires-made f, length-append (fires f) is);
    }

because : {w v : List ℕ} (unspent : ℕ) (t : Stop) → BothSound w v → Because w v unspent t
    → Model.Because (under w) unspent (view v) t
because unspent ended h b = b
because {w} {v} unspent paused h (o, l, e) = (o, sym (fires-made (rule_at (under w) (view v) 0)) ∙ l, e)
because {w} {v} unspent noroom h (o, l, n) =
    (o, omega (arith, l, fires-made (rule_at (under w) (view v) 0)), (refused_13 (sound-state h) 0).1 (o, n))

-- So calls of step by picks 0 that stop where a run does are that run.
pub steps-run : {w v : List ℕ} {budget : ℕ} {r : RunAnswer} {v' : List ℕ} {t : Stop} {n : ℕ} → run_told r ≡ stopped t n
    → BothSound w v → budget ≤ budget_max → RunSteps w v budget t n v' → RunCall w v budget r v'
unfolding ran_out
steps-run {w} {v} {budget} {r} {v'} {t} {n} e h o s =
    let T = under w in
    let m = head_walk s.picks s.steps refl in
    let k = run_is_right (sound_table_lem h) budget (sound-state h) in
    let x = both_of w v' (table-given h) (rw s.there at (sound-state (walk_keeps h (picks_walk s.picks)))) in
    let a : Halts m.walk budget t =
    record {
      at_head = m.at_head;
      within = omega (arith, m.as_many, s.interactions, s.within);
      because = rw (m.as_many, s.interactions, s.there) (because (budget - n) t x s.because);
    } in
    let b : Halts k.walk budget (ran T budget (view v)).stop =
    record { at_head = k.at_head; within = omega (arith, k.made, k.within); because = rw (← k.made) k.because } in
    let z = one_end refl m.walk k.walk a b in
    record {
      promised =
          ap₂ out (e ∙ ap₂ stopped z.0 (sym s.interactions ∙ sym m.as_many ∙ z.1 ∙ sym k.made)) (sym s.there ∙ z.2)
          ∙ sym (run-asked w v budget h (omega arith));
    }

-- And a run that is not refused is such calls, with a budget that is not too large.
pub run-within : {w v : List ℕ} {budget : ℕ} {r : RunAnswer} {v' : List ℕ} {t : Stop} {n : ℕ} → RunCall w v budget r v'
    → run_told r ≡ stopped t n → budget ≤ budget_max
run-within {w} {v} {budget} {r} {t = t} {n = n} c e = go (dec_lt budget_max budget)
  where
    go : Dec (budget_max < budget) → budget ≤ budget_max
    go (no o) = omega arith
    go (yes o) =
        let q = (run_exactly c (Err Why.LargeBudget)).1 (RunIf.too_much ((run-went c t n e).0, o)) in
        let k : number 17 ≡ stopped t n = ap run_told (sym q) ∙ e in
        absurd (let z : ◌≡◌ {A = ℕ} 0 1 = cc in omega arith)

pub run_exactly_steps : {w v : List ℕ} {budget : ℕ} {r : RunAnswer} {v' : List ℕ} (t : Stop) (n : ℕ)
    → run_told r ≡ stopped t n
    → RunCall w v budget r v' ↔ (BothSound w v × (budget ≤ budget_max) × RunSteps w v budget t n v')
run_exactly_steps t n e = (
  λ c. ((run-went c t n e).0, run-within c e, run-steps c t n e),
  λ (h, o, s). steps-run e h o s,
)
