-- One law for each way out of an interaction.
use Rattle.std.proofs.Common.{◌≡◌, refl, ap, sym, ◌∙◌, Bool, true, false, Ok, Err, List, [], ◌∷◌, ℕ, suc, ◌+◌, ◌-◌, ◌<◌, ◌≤◌, pred, arith, length, get_or, leb-true, le-leb}
use Rattle.parts.specs.Limits.{cells_max, names_max, waiting_max}
use Rattle.model.specs.State.{St, used}
use Rattle.model.specs.Table.{Entry}
use Rattle.model.specs.Step.{Answer, moved, refused, fired}
use Rattle.model.specs.Stepped.{Room, fire_if}
use Rattle.model.specs.Stepped as Step
use Rattle.state.specs.Moves.{out_of_waiting}
use Rattle.table.specs.Layout.{entry_at, entry_of}
use Rattle.table.specs.Laws.Lists.{length-tab}
use Rattle.texts.proofs.Beneath.Tools.{both, pair}
use Rattle.kept.specs.Right.{Right}
use Rattle.kept.specs.declared.Kept.{Kept}
use Rattle.firing.specs.Built.{equations_of, cells_of, names_of}
use Rattle.firing.specs.Fires.{Pairing}
use Rattle.machine.proofs.Sounds.{right_out}
use Rattle.machine.specs.Meets.{Countable, room_test, Interactable, Interacting}
use Rattle.machine.specs.declared.outcome.Stop.TheVariants.{Paused, NoRoom}

few-used : (l : List ℕ) → used l ≤ length l
few-used [] = omega arith
few-used (v ∷ l) = omega (arith, few-used l)

one_used : (l : List ℕ) (a : ℕ) → 0 < get_or l a 0 → 1 ≤ used l
one_used [] a h = absurd (omega arith)
one_used (v ∷ l) ℕ.zero h = omega arith
one_used (v ∷ l) (ℕ.suc a) h = omega (arith, one_used l a h)

two_used : (l : List ℕ) (a b : ℕ) → ¬ (a ≡ b) → 0 < get_or l a 0 → 0 < get_or l b 0 → 2 ≤ used l
two_used [] a b d h k = absurd (omega arith)
two_used (v ∷ l) ℕ.zero ℕ.zero d h k = absurd (d refl)
two_used (v ∷ l) ℕ.zero (ℕ.suc b) d h k = omega (arith, one_used l b k)
two_used (v ∷ l) (ℕ.suc a) ℕ.zero d h k = omega (arith, one_used l a h)
two_used (v ∷ l) (ℕ.suc a) (ℕ.suc b) d h k = omega (arith, two_used l a b (λ e. d (ap suc e)) h k)

-- The sizes of a rule are in its row.
body-size : (w : List ℕ) (i : ℕ) → length (entry_at w i).body ≡ equations_of w i
unfolding entry_of
body-size w i = length-tab _ _

cells-size : (w : List ℕ) (i : ℕ) → length (entry_at w i).cells ≡ cells_of w i
unfolding entry_of
cells-size w i = length-tab _ _

fresh-size : (w : List ℕ) (i : ℕ) → (entry_at w i).fresh ≡ names_of w i
unfolding entry_of
fresh-size w i = refl

never : {A : Type 0} → true ≡ false → A
never e = absurd (let z : ◌≡◌ {A = ℕ} 0 1 = cc in omega arith)

-- `Room` of the model, for the state without the picked equation.
module _ (w : List ℕ) (i k : ℕ) (s : St) (q : Kept) (f : Right q s) (waits : ℕ) (less : waits ≡ pred s.waiting.used) where
  room_is : room_test w i waits q ≡ true → Room (entry_at w i) (out_of_waiting k s)
  unfolding room_test out_of_waiting
  room_is e =
      let a = both _ _ e in
      let b = both _ _ a.1 in
      let c = leb-true (q.cells - 2 + cells_of w i) cells_max a.0 in
      let d = leb-true (q.names + names_of w i) names_max b.0 in
      let g = leb-true (waits + equations_of w i) waiting_max b.1 in
      let c' : used s.symbols - 2 + length (entry_at w i).cells ≤ cells_max = omega (arith, c, cells-size w i, f.cells) in
      let d' : used s.names + (entry_at w i).fresh ≤ names_max = omega (arith, d, fresh-size w i, f.names) in
      let g' : pred s.waiting.used + length (entry_at w i).body ≤ waiting_max = omega (arith, g, body-size w i) in
      (c', d', g')

  is_room : Room (entry_at w i) (out_of_waiting k s) → room_test w i waits q ≡ true
  unfolding room_test out_of_waiting
  is_room r =
      let c : used s.symbols - 2 + length (entry_at w i).cells ≤ cells_max = r.0 in
      let d : used s.names + (entry_at w i).fresh ≤ names_max = r.1 in
      let g : pred s.waiting.used + length (entry_at w i).body ≤ waiting_max = r.2 in
      pair _ _
      (le-leb (q.cells - 2 + cells_of w i) cells_max (omega (arith, cells-size w i, f.cells)))
      (pair _ _
      (le-leb (q.names + names_of w i) names_max (omega (arith, fresh-size w i, f.names)))
      (le-leb (waits + equations_of w i) waiting_max (omega (arith, body-size w i))))

fires : (e : Entry) (a b : ℕ) (s : St) → Room e s → fire_if e a b s ≡ moved (fired e a b s)
fires e a b s h = go (Step.room e s)
  where
    go : (d : Dec (Room e s)) → elim d as (λ w. Answer) [ yes k ↦ moved (fired e a b s) | no k ↦ refused 13 ] ≡ moved (fired e a b s)
    go (yes k) = refl
    go (no k) = absurd (k h)

full : (e : Entry) (a b : ℕ) (s : St) → ¬ Room e s → fire_if e a b s ≡ refused 13
full e a b s h = go (Step.room e s)
  where
    go : (d : Dec (Room e s)) → elim d as (λ w. Answer) [ yes k ↦ moved (fired e a b s) | no k ↦ refused 13 ] ≡ refused 13
    go (yes k) = absurd (h k)
    go (no k) = refl

module _ (w : List ℕ) (i a b k : ℕ) (s : St) (q : Kept) (may : Bool) (f : Interactable w i a b k s) (g : Right q s) where
  pub spent : may ≡ false → Interacting (entry_at w i) may a b k s (Err Paused) s
  unfolding Interacting
  spent e = (e, refl)

  module _ (n : ℕ) (many : n ≡ s.waiting.used) where
    pub waits-fit : 1 ≤ n
    waits-fit = omega (arith, f.pullable.waits)

    pub countable : Countable (n - 1) q
    countable =
        record {
          two = omega (arith, two_used s.symbols a b f.pairing.apart f.pairing.first f.pairing.second, g.cells);
          cells = omega (arith, few-used s.symbols, f.pairing.symbols, g.cells);
          names = omega (arith, few-used s.names, f.pairing.names, g.names);
          waiting = omega (arith, f.pullable.room);
        }

    less : n - 1 ≡ pred s.waiting.used
    less = go s.waiting.used many
      where
        go : (m : ℕ) → n ≡ m → n - 1 ≡ pred m
        go ℕ.zero e = omega arith
        go (ℕ.suc m) e = omega arith

    module _ (yes : may ≡ true) (r : Bool) (asked : r ≡ room_test w i (n - 1) q) where
      pub no_room : r ≡ false → Interacting (entry_at w i) may a b k s (Err NoRoom) s
      unfolding Interacting
      no_room e =
          (yes, full (entry_at w i) a b (out_of_waiting k s) (λ h. never (sym (is_room w i k s q g (n - 1) less h) ∙ (sym asked ∙ e))), refl)

      module _ (room : r ≡ true) (s₁ : St) (out : s₁ ≡ out_of_waiting k s) where
        has_room : Room (entry_at w i) (out_of_waiting k s)
        has_room = room_is w i k s q g (n - 1) less (sym asked ∙ room)

        pub pair_to_fire : Pairing a b s₁
        unfolding out_of_waiting
        pair_to_fire =
            rw out
            (record {
              first = f.pairing.first;
              second = f.pairing.second;
              apart = f.pairing.apart;
              symbols = f.pairing.symbols;
              arguments = f.pairing.arguments;
              names = f.pairing.names;
            })

        pub room_to_fire : Room (entry_at w i) s₁
        room_to_fire = rw out has_room

        pub right_to_fire : Right q s₁
        right_to_fire = rw out (right_out s k q g)

        pub interacted : (s₂ : St) (q₂ : Kept) → s₂ ≡ fired (entry_at w i) a b s₁ → Right q₂ s₂
            → Interacting (entry_at w i) may a b k s (Ok (record { kept = q₂; interacted = true })) s₂
        unfolding Interacting
        interacted s₂ q₂ e h =
            (refl, yes, fires (entry_at w i) a b (out_of_waiting k s) has_room ∙ ap moved (sym (e ∙ ap (fired (entry_at w i) a b) out)), h)
