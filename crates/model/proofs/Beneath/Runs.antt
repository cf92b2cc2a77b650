-- What a step answers, and what a run does.
use Rattle.std.specs.Prelude.{◌≡◌, List, [], ◌∷◌, length}
use Rattle.std.proofs.Math.Path.{refl, ap, subst}
use Rattle.std.proofs.Common.{◌∙◌, arith}
use Prim.Native.Nat.{ℕ, zero, suc, ◌+◌, ◌*◌, ◌-◌, ◌≤◌, ◌<◌}
use Rattle.std.proofs.Math.Decide.{ℕ_discrete, dec_lt}
use Rattle.parts.specs.Limits.{names_max, waiting_max, loops_max}
use Rattle.parts.specs.Sides.{Side, name, cell, Pair, ◌:=◌}
use Rattle.model.specs.State.{St, equation, used, with_names}
use Rattle.model.specs.Table.{Entry, Table, Found, none, straight, turned}
use Rattle.model.specs.Step.{Answer, moved, refused, taken_out, held, fired, rule_of}
use Rattle.model.specs.Rows.{join, free, count_loop}
use Rattle.model.specs.Stepped.{Room, room, fire_if, meet, looped, fasten, act, stepped}
use Rattle.model.specs.Step.{place, rule_at, picked}
use Rattle.model.specs.Follow.{follow, drops}
use Rattle.model.specs.Run.{run, ran, stopped}
use Rattle.model.specs.Sound.{book, Sound, meaning}
use Rattle.model.specs.SoundTable.{SoundTable}
use Rattle.model.specs.Walk.{Walk, stay, take, made_in, one_made, ended, paused, noroom, Ran, AtHead, Because, Stopped}
use Rattle.model.proofs.Beneath.Moves.{Outcome, Moves}
use Rattle.model.proofs.Beneath.Stepped.{step_is_right}

-- A step is refused by number 12 where the pick is at or past the number waiting, and else by number 13 or not at
-- all.
abbrev pub MovedOr13 : Answer → Type 0
MovedOr13 (moved st) = Unit {0}
MovedOr13 (refused n) = n ≡ 13

fire_answers : (e : Entry) (a b : ℕ) (st : St) → MovedOr13 (fire_if e a b st)
fire_answers e a b st = go (room e st)
  where
    go : (d : Dec (Room e st)) → MovedOr13 (elim d [ yes h ↦ moved (fired e a b st) | no h ↦ refused 13 ])
    go (yes h) = tt
    go (no h) = refl

meet-answers : (T : Table) (a b : ℕ) (st : St) → MovedOr13 (meet T a b st)
meet-answers T a b st = go (rule_of T a b st)
  where
    go : (r : Found)
        → MovedOr13 (elim r [ none ↦ moved (held a b st) | straight i e ↦ fire_if e a b st | turned i e ↦ fire_if e b a st ])
    go Found.none = tt
    go (straight i e) = fire_answers e a b st
    go (turned i e) = fire_answers e b a st

loop-answers : (x : ℕ) (st : St) → MovedOr13 (looped x st)
loop-answers x st = go (dec_lt st.loops loops_max)
  where
    go : (d : Dec (st.loops < loops_max))
        → MovedOr13 (elim d [ yes h ↦ moved (count_loop (free x st)) | no h ↦ refused 13 ])
    go (yes h) = tt
    go (no h) = refl

fasten-answers : (s t : Side) (st : St) → MovedOr13 (fasten s t st)
fasten-answers (name x) (name y) st = go (ℕ_discrete x y)
  where
    go : (d : Dec (x ≡ y))
        → MovedOr13 (elim d [ yes p ↦ looped x st | no p ↦ moved (join x y st) ])
    go (yes p) = loop-answers x st
    go (no p) = tt
fasten-answers (name x) (cell c) st = tt
fasten-answers (cell c) (name y) st = tt
fasten-answers (cell a) (cell b) st = tt

act-answers : (T : Table) (p : Pair) (st : St) → MovedOr13 (act T p st)
act-answers T (name x := t) st =
    fasten-answers
    (follow (name x) st.names).end
    (follow t (follow (name x) st.names).names).end
    (with_names (follow t (follow (name x) st.names).names).names st)
act-answers T (cell a := name y) st = fasten-answers (follow (name y) st.names).end (cell a) (with_names (follow (name y) st.names).names st)
act-answers T (cell a := cell b) st = meet-answers T a b st

pub picked-answers : (T : Table) (st : St) (p : ℕ) → p < st.waiting.used → MovedOr13 (stepped T st p)
unfolding stepped
picked-answers T st p h = go (dec_lt p st.waiting.used)
  where
    go : (d : Dec (p < st.waiting.used))
        → MovedOr13 (elim d [ yes o ↦ act T (equation (place st p) st.waiting.words) (taken_out (place st p) st) | no o ↦ refused 12 ])
    go (yes o) = act-answers T (equation (place st p) st.waiting.words) (taken_out (place st p) st)
    go (no o) = absurd (o h)

pub past-answers : (T : Table) (st : St) (p : ℕ) → st.waiting.used ≤ p → stepped T st p ≡ refused 12
unfolding stepped
past-answers T st p h = go (dec_lt p st.waiting.used)
  where
    go : (d : Dec (p < st.waiting.used))
        → elim d [ yes o ↦ act T (equation (place st p) st.waiting.words) (taken_out (place st p) st) | no o ↦ refused 12 ] ≡ refused 12
    go (yes o) = absurd (omega arith)
    go (no o) = refl

-- Some steps, each on the head, with the interactions that they make.
pub data HeadWalk (T : Table) : St → ℕ → St → Type 0 where
  stop : {st : St} → HeadWalk T st 0 st
  next : {st st' st'' : St} {n : ℕ} → stepped T st 0 ≡ moved st' → HeadWalk T st' n st''
      → HeadWalk T st (one_made (rule_at T st 0) + n) st''

pub record Runs (T : Table) (budget made : ℕ) (st : St) (r : Ran) : Type 0 where
  pub more : ℕ
  pub walk : HeadWalk T st more r.state
  pub total : r.made ≡ made + more
  pub within : more ≤ budget
  pub because : Because T (budget - more) r.state r.stop

used-few : (l : List ℕ) → used l ≤ length l
used-few [] = omega arith
used-few (v ∷ l) = omega (arith, used-few l)

measure_few : {T : Table} {st : St} → Sound T st → st.waiting.used + used st.names ≤ waiting_max + names_max
measure_few {st = st} s = omega (arith, s.sizes.waits, s.sizes.names, used-few st.names)

module _ {T : Table} (h : SoundTable T) where
  -- That many steps suffice.
  abbrev Enough : ℕ → ℕ → St → Type 0
  Enough steps budget st = budget * suc (waiting_max + names_max) + (st.waiting.used + used st.names) < steps

  abbrev Again : ℕ → Type 0
  Again steps = (b m : ℕ) (st : St) → Sound T st → Enough steps b st → Runs T b m st (run T steps b m st)

  one_run : (steps budget made : ℕ) (st : St) → Sound T st → Enough (suc steps) budget st → Again steps
      → Runs T budget made st (run T (suc steps) budget made st)
  unfolding run
  one_run steps budget made st s f again = go st.waiting.used refl
    where
      refusal : 0 < st.waiting.used → (n : ℕ) → stepped T st 0 ≡ refused n → stepped T st 0 ≡ refused 13
      refusal o n e = e ∙ ap refused (subst MovedOr13 e (picked-answers T st 0 o))

      moves : (st' : St) → stepped T st 0 ≡ moved st'
          → Moves T (book T) st (meaning s) (rule_at T st 0) (drops (picked st 0) st.names) st'
      moves st' e = subst (Outcome T (book T) st (meaning s) (rule_at T st 0) (drops (picked st 0) st.names)) e (step_is_right h st s 0)

      wiring : 0 < st.waiting.used → one_made (rule_at T st 0) ≡ 0 → (a : Answer) → stepped T st 0 ≡ a
          → Runs T budget made st (elim a [ moved st' ↦ run T steps budget made st' | refused n ↦ stopped noroom made st ])
      wiring w o (moved st') e = on (again budget made st' k.sound (omega (arith, f, k.shrinks (nothing-found (rule_at T st 0) o))))
        where
          k : Moves T (book T) st (meaning s) (rule_at T st 0) (drops (picked st 0) st.names) st'
          k = moves st' e

          nothing-found : (r : Found) → one_made r ≡ 0 → r ≡ Found.none
          nothing-found Found.none q = refl
          nothing-found (straight i d) q = absurd (omega arith)
          nothing-found (turned i d) q = absurd (omega arith)

          on : Runs T budget made st' (run T steps budget made st')
              → Runs T budget made st (run T steps budget made st')
          on r =
              record {
                more = r.more;
                walk = subst (λ n. HeadWalk T st n (run T steps budget made st').state) (let q : one_made (rule_at T st 0) + r.more ≡ r.more = omega arith in q) (next e r.walk);
                total = r.total;
                within = r.within;
                because = r.because;
              }
      wiring w o (refused n) e =
          record { more = 0; walk = stop; total = omega arith; within = omega arith; because = (w, omega (arith, o), refusal w n e) }

      firing : 0 < st.waiting.used → one_made (rule_at T st 0) ≡ 1 → (b : ℕ) → budget ≡ suc b → (a : Answer)
          → stepped T st 0 ≡ a
          → Runs T budget made st (elim a [ moved st' ↦ run T steps b (suc made) st' | refused n ↦ stopped noroom made st ])
      firing w o b q (moved st') e =
          on (again b (suc made) st' (moves st' e).sound (omega (arith, f, measure_few (moves st' e).sound, ap (λ x. x * suc (waiting_max + names_max)) q)))
        where
          on : Runs T b (suc made) st' (run T steps b (suc made) st')
              → Runs T budget made st (run T steps b (suc made) st')
          on r =
              record {
                more = suc r.more;
                walk =
                    subst
                    (λ n. HeadWalk T st n (run T steps b (suc made) st').state)
                    (let t : one_made (rule_at T st 0) + r.more ≡ suc r.more = omega arith in t)
                    (next e r.walk);
                total = omega (arith, r.total);
                within = omega (arith, r.within, q);
                because =
                    subst
                    (λ n. Because T n (run T steps b (suc made) st').state (run T steps b (suc made) st').stop)
                    (let t : b - r.more ≡ budget - suc r.more = omega (arith, q) in t)
                    r.because;
              }
      firing w o b q (refused n) e =
          record { more = 0; walk = stop; total = omega arith; within = omega arith; because = (w, omega (arith, o, q), refusal w n e) }

      spend : 0 < st.waiting.used → one_made (rule_at T st 0) ≡ 1 → (b : ℕ) → budget ≡ b
          → Runs
          T
          budget
          made
          st
          (elim b [
            | zero ↦ stopped paused made st
            | suc c ↦ elim (stepped T st 0) [ moved st' ↦ run T steps c (suc made) st' | refused n ↦ stopped noroom made st ]
          ])
      spend w o ℕ.zero q = record { more = 0; walk = stop; total = omega arith; within = omega arith; because = (w, o, omega (arith, q)) }
      spend w o (ℕ.suc b) q = firing w o b q (stepped T st 0) refl

      which : 0 < st.waiting.used → (o : ℕ) → one_made (rule_at T st 0) ≡ o
          → Runs
          T
          budget
          made
          st
          (elim o [
            | zero ↦ elim (stepped T st 0) [ moved st' ↦ run T steps budget made st' | refused n ↦ stopped noroom made st ]
            | suc p ↦ elim budget [
              | zero ↦ stopped paused made st
              | suc c ↦ elim (stepped T st 0) [ moved st' ↦ run T steps c (suc made) st' | refused n ↦ stopped noroom made st ]
            ]
          ])
      which w ℕ.zero q = wiring w q (stepped T st 0) refl
      which w (ℕ.suc p) q = spend w (at_most (rule_at T st 0) q) budget refl
        where
          at_most : (r : Found) → one_made r ≡ suc p → one_made r ≡ 1
          at_most Found.none e = absurd (omega arith)
          at_most (straight i d) e = refl
          at_most (turned i d) e = refl

      go : (w : ℕ) → st.waiting.used ≡ w
          → Runs
          T
          budget
          made
          st
          (elim w [
            | zero ↦ stopped ended made st
            | suc v ↦ elim (one_made (rule_at T st 0)) [
              | zero ↦ elim (stepped T st 0) [ moved st' ↦ run T steps budget made st' | refused n ↦ stopped noroom made st ]
              | suc p ↦ elim budget [
                | zero ↦ stopped paused made st
                | suc c ↦ elim (stepped T st 0) [ moved st' ↦ run T steps c (suc made) st' | refused n ↦ stopped noroom made st ]
              ]
            ]
          ])
      go ℕ.zero e = record { more = 0; walk = stop; total = omega arith; within = omega arith; because = e }
      go (ℕ.suc v) e = which (omega (arith, e)) (one_made (rule_at T st 0)) refl

  runs : (steps budget made : ℕ) (st : St) → Sound T st → Enough steps budget st
      → Runs T budget made st (run T steps budget made st)
  runs ℕ.zero budget made st s f = absurd (omega arith)
  runs (ℕ.suc steps) budget made st s f = one_run steps budget made st s f (λ b m st' t k. runs steps b m st' t k)

  head_walk : {n : ℕ} {st st' : St} → HeadWalk T st n st' → (w : Walk T st st') × AtHead w × (made_in w ≡ n)
  unfolding made_in
  head_walk HeadWalk.stop = (stay, tt, refl)
  head_walk (next {st = st} e v) = let k = head_walk v in (take 0 e k.0, (refl, k.1), ap (λ m. one_made (rule_at T st 0) + m) k.2)

  -- What a run does: it steps on the head until one of the three reasons to stop.
  pub run-stopped : (budget : ℕ) (st : St) → Sound T st → Stopped T budget st (ran T budget st)
  unfolding ran
  run-stopped budget st s = go (runs (suc budget * suc (waiting_max + names_max)) budget 0 st s (omega (arith, measure_few s)))
    where
      go : {r : Ran} → Runs T budget 0 st r → Stopped T budget st r
      go {r} a =
          let w = head_walk a.walk in
          record {
            walk = w.0;
            at_head = w.1;
            made = omega (arith, a.total, w.2);
            within = omega (arith, a.total, a.within);
            because = subst (λ n. Because T n r.state r.stop) (let e : budget - a.more ≡ budget - r.made = omega (arith, a.total) in e) a.because;
          }
