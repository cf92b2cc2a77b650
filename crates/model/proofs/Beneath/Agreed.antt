-- Why the steps of the machine agree with the calculus, whichever waiting equation is picked.
use Rattle.std.specs.Prelude.{◌≡◌, List, [], ◌∷◌, ℕ, suc, ◌+◌, ◌*◌, ◌≤◌, ◌<◌}
use Rattle.std.proofs.Math.Path.{refl, ap}
use Rattle.std.proofs.Common.{◌∙◌, subst, arith}
use Rattle.std.proofs.Math.Decide.{dec_lt}
use Rattle.calculus.specs.Calculus.{Label, Com, Int, Step, Valid}
use Rattle.calculus.specs.Descent.{Ends, tally, Normal}
use Rattle.calculus.specs.Nets.{◌≈◌}
use Rattle.calculus.specs.Order.{steps, interactions, uses, is_interaction, is_use, Agreed}
use Rattle.calculus.proofs.Order.{order_does_not_matter}
use Rattle.calculus.proofs.Beneath.Compatible.{valid_same}
use Rattle.calculus.proofs.Beneath.Descent.{tally_reordered, along, kept-along, normal_along}
use Rattle.calculus.proofs.Beneath.Order.{calculus_diamond}
use Rattle.calculus.proofs.Beneath.Rename.{≈_sym, ≈_trans}
use Rattle.calculus.specs.Terms.{Conf}
use Rattle.parts.specs.Limits.{rule_equations_max}
use Rattle.model.specs.State.{St, bound}
use Rattle.model.specs.Table.{Table}
use Rattle.model.specs.Step.{refused, moved, Answer}
use Rattle.model.specs.Stepped.{stepped}
use Rattle.model.specs.Sound.{Sound, meaning, book}
use Rattle.model.specs.SoundTable.{SoundTable}
use Rattle.model.specs.Load.{loaded, Net}
use Rattle.model.specs.NetReads.{NetReads}
use Rattle.model.specs.Agree.{Agrees, after, GoesOn, Finishes, steps_in, uses_in}
use Rattle.model.specs.Walk.{take, Walk, stay, made_in, EndsAt}
use Rattle.model.proofs.Beneath.Books.{book-sound}
use Rattle.model.proofs.Beneath.Ended.{nothing_applies}
use Rattle.model.proofs.Beneath.Loaded.{load-means, load_sound, one_meaning}
use Rattle.model.proofs.Beneath.Moves.{cost}
use Rattle.model.proofs.Beneath.Runs.{picked-answers, MovedOr13}
use Rattle.model.proofs.Beneath.Walks.{walked, Walked, sound-valid}

few-cost : (L : ℕ) (M : List Label) → tally (cost L) M ≤ steps M + L * interactions M
few-cost L [] = omega arith
few-cost L (Com ∷ M) = omega (arith, few-cost L M)
few-cost L (Int i ∷ M) = omega (arith, few-cost L M)

pub agreed : {T : Table} (h : SoundTable T) {st st' : St} (s : Sound T st) {M : List Label} {N : Conf}
    → EndsAt T (meaning s) M N
    → (w : Walk T st st') → Agrees w M N
agreed {T} h {st} {st'} s {M} {N} x w = go (walked h s w)
  where
    go : Walked h s st' (steps_in w) (made_in w) (λ i. uses_in i w) → Agrees w M N
    go k =
        record {
          sound = k.sound;
          no_more = omega (arith, a.no_more is_interaction, tally_reordered is_interaction r.labels, k.interactions_made);
          no_more_uses = λ i. omega (arith, a.no_more (is_use i), tally_reordered (is_use i) r.labels, k.rules_used i);
          few_steps = omega (arith, k.bound, a.no_more (cost rule_equations_max), tally_reordered (cost rule_equations_max) r.labels, few-cost rule_equations_max M);
          at_end = λ e. last (a.ended (normal e));
        }
      where
        r : Ends ◌≈◌ (Step (book T)) (meaning s) [] k.labels (meaning k.sound)
        r = k.ends

        a : Agreed (book T) M N r.left r.end
        a = order_does_not_matter (book-sound h) (sound-valid h s) x.way x.end r.way

        normal : st'.waiting.used ≡ 0 → Normal (Step (book T)) r.end
        normal e =
            normal_along
            (calculus_diamond (book-sound h))
            (kept-along (calculus_diamond (book-sound h)) (sound-valid h s) r.way)
            (≈_sym r.equal)
            (nothing_applies h st' k.sound e)

        last : ((f : Label → ℕ) → tally f r.left ≡ tally f M) × (r.end ≈ N)
            → (made_in w ≡ interactions M) × ((i : ℕ) → uses_in i w ≡ uses i M) × (meaning k.sound ≈ N)
        last e = (
          omega (arith, e.0 is_interaction, tally_reordered is_interaction r.labels, k.interactions_made),
          λ i. omega (arith, e.0 (is_use i), tally_reordered (is_use i) r.labels, k.rules_used i),
          ≈_trans (≈_sym r.equal) e.1,
        )

pub two_walks : {T : Table} (h : SoundTable T) {st st₁ st₂ : St} (s : Sound T st) (w : Walk T st st₁)
    → st₁.waiting.used ≡ 0 → (v : Walk T st st₂)
    → (made_in v ≤ made_in w) × (st₂.waiting.used ≡ 0 → (made_in v ≡ made_in w) × ((i : ℕ) → uses_in i v ≡ uses_in i w) × ((k₁ : Sound T st₁) (k₂ : Sound T st₂) → meaning k₂ ≈ meaning k₁))
two_walks {T} h {st} {st₁} {st₂} s w e v = go (walked h s w)
  where
    go : Walked h s st₁ (steps_in w) (made_in w) (λ i. uses_in i w)
        → (made_in v ≤ made_in w) × (st₂.waiting.used ≡ 0 → (made_in v ≡ made_in w) × ((i : ℕ) → uses_in i v ≡ uses_in i w) × ((k₁ : Sound T st₁) (k₂ : Sound T st₂) → meaning k₂ ≈ meaning k₁))
    go k = on (agreed h s (record { way = r.way; end = end_normal }) v)
      where
        r : Ends ◌≈◌ (Step (book T)) (meaning s) [] k.labels (meaning k.sound)
        r = k.ends

        end_normal : Normal (Step (book T)) r.end
        end_normal =
            normal_along
            (calculus_diamond (book-sound h))
            (kept-along (calculus_diamond (book-sound h)) (sound-valid h s) r.way)
            (≈_sym r.equal)
            (nothing_applies h st₁ k.sound e)

        made_is : interactions r.left ≡ made_in w
        made_is = tally_reordered is_interaction r.labels ∙ k.interactions_made

        uses-are : (i : ℕ) → uses i r.left ≡ uses_in i w
        uses-are i = tally_reordered (is_use i) r.labels ∙ k.rules_used i

        on : Agrees v r.left r.end
            → (made_in v ≤ made_in w) × (st₂.waiting.used ≡ 0 → (made_in v ≡ made_in w) × ((i : ℕ) → uses_in i v ≡ uses_in i w) × ((k₁ : Sound T st₁) (k₂ : Sound T st₂) → meaning k₂ ≈ meaning k₁))
        on a = (
          omega (arith, a.no_more, made_is),
          λ z. (
            (a.at_end z).0 ∙ made_is,
            λ i. (a.at_end z).1 i ∙ uses-are i,
            λ k₁ k₂. subst (λ C. C ≈ meaning k₁) (one_meaning a.sound k₂) (subst (λ C. meaning a.sound ≈ C) (one_meaning k.sound k₁) (≈_trans (a.at_end z).2 r.equal)),
          ),
        )

pub agreed-loaded : {T : Table} (h : SoundTable T) {net : Net} {C N : Conf} {M : List Label} → NetReads T net C
    → EndsAt T C M N
    → {st' : St} (w : Walk T (loaded net) st') → Agrees w M N
agreed-loaded {T} h {net} {C} {N} {M} r x {st'} w = go (along (calculus_diamond (book-sound h)) valid (≈_sym (load-means h r)) x.way)
  where
    s : Sound T (loaded net)
    s = load_sound h r

    valid : Valid C
    valid = valid_same (load-means h r) (sound-valid h s)

    go : Ends ◌≈◌ (Step (book T)) (meaning s) [] M N → Agrees w M N
    go k = on (agreed h s (record { way = k.way; end = end_normal }) w)
      where
        end_normal : Normal (Step (book T)) k.end
        end_normal =
            normal_along
            (calculus_diamond (book-sound h))
            (kept-along (calculus_diamond (book-sound h)) (sound-valid h s) k.way)
            (≈_sym k.equal)
            x.end

        on : Agrees w k.left k.end → Agrees w M N
        on a =
            record {
              sound = a.sound;
              no_more = omega (arith, a.no_more, tally_reordered is_interaction k.labels);
              no_more_uses = λ i. omega (arith, a.no_more_uses i, tally_reordered (is_use i) k.labels);
              few_steps = omega (arith, a.few_steps, tally_reordered (λ l. 1) k.labels, tally_reordered is_interaction k.labels);
              at_end =
                  λ e.
                  let b = a.at_end e in (
                    b.0 ∙ tally_reordered is_interaction k.labels,
                    λ i. b.1 i ∙ tally_reordered (is_use i) k.labels,
                    ≈_trans b.2 k.equal,
                  );
            }

-- Picks that go on end, if walks are bounded.
module _ (T : Table) where
  next_after : (f : ℕ → ℕ) (n : ℕ) (st : St) {st' : St} → stepped T st (f 0) ≡ moved st'
      → after T f (suc n) st ≡ after T (λ k. f (suc k)) n st'
  unfolding after
  next_after f n st e =
      ap (λ a. elim a as (λ w. St) [ moved s' ↦ after T (λ k. f (suc k)) n s' | refused k ↦ st ]) e

  ends_here : (f : ℕ → ℕ) (st : St) → st.waiting.used ≡ 0 → Finishes T f st
  unfolding after steps_in
  ends_here f st e = record { end = st; walk = stay; by_picks = refl; nothing_waits = e }

  goes_one : (f : ℕ → ℕ) (st : St) → GoesOn T f st → 0 < st.waiting.used
      → (st' : St) × (stepped T st (f 0) ≡ moved st')
  unfolding after
  goes_one f st g o = go (stepped T st (f 0)) refl
    where
      go : (a : Answer) → stepped T st (f 0) ≡ a → (st' : St) × (stepped T st (f 0) ≡ moved st')
      go (moved st') e = (st', e)
      go (refused n) e = absurd ((g 0 o).1 (e ∙ ap refused (subst MovedOr13 e (picked-answers T st (f 0) (g 0 o).0))))

  goes_further : (f : ℕ → ℕ) (st : St) {st' : St} → stepped T st (f 0) ≡ moved st' → GoesOn T f st
      → GoesOn T (λ k. f (suc k)) st'
  goes_further f st e g n =
      subst (λ s. 0 < s.waiting.used → (f (suc n) < s.waiting.used) × ¬ (stepped T s (f (suc n)) ≡ refused 13)) (next_after f n st e) (g (suc n))

  ends-later : (f : ℕ → ℕ) (st : St) {st' : St} → stepped T st (f 0) ≡ moved st' → Finishes T (λ k. f (suc k)) st'
      → Finishes T f st
  unfolding steps_in
  ends-later f st e k =
      record {
        end = k.end;
        walk = take (f 0) e k.walk;
        by_picks = next_after f (steps_in k.walk) st e ∙ k.by_picks;
        nothing_waits = k.nothing_waits;
      }

  longer : (p : ℕ) (st : St) {st' st'' : St} (e : stepped T st p ≡ moved st') (w : Walk T st' st'')
      → steps_in (take p e w) ≡ suc (steps_in w)
  unfolding steps_in
  longer p st e w = refl

  pub picks_end : (b : ℕ) (f : ℕ → ℕ) (st : St) → ((st' : St) (w : Walk T st st') → steps_in w ≤ b) → GoesOn T f st
      → Finishes T f st
  picks_end ℕ.zero f st bound g = go (dec_lt 0 st.waiting.used)
    where
      go : Dec (0 < st.waiting.used) → Finishes T f st
      go (no o) = ends_here f st (omega arith)
      go (yes o) = let k = goes_one f st g o in absurd (omega (arith, bound k.0 (take (f 0) k.1 stay), longer (f 0) st k.1 stay))
  picks_end (ℕ.suc b) f st bound g = go (dec_lt 0 st.waiting.used) (λ f' st' c k. picks_end b f' st' c k)
    where
      go : Dec (0 < st.waiting.used)
          → ((f' : ℕ → ℕ) (st' : St) → ((st'' : St) (w : Walk T st' st'') → steps_in w ≤ b) → GoesOn T f' st' → Finishes T f' st')
          → Finishes T f st
      go (no o) again = ends_here f st (omega arith)
      go (yes o) again =
          let k = goes_one f st g o in
          ends-later
          f
          st
          k.1
          (again
          (λ n. f (suc n))
          k.0
          (λ st'' w. omega (arith, bound st'' (take (f 0) k.1 w), longer (f 0) st k.1 w))
          (goes_further f st k.1 g))
