-- Random descent: where a labelled relation has the labelled diamond up to an equivalence, each way from a state to
-- its end has the same labels.
use Rattle.std.specs.Prelude.{◌≡◌, refl, List, [], ◌∷◌, ◌++◌, ℕ, ◌+◌, ◌≤◌}
use Rattle.std.proofs.Common.{sym, ◌∙◌, ap, ap₂, inl, inr, arith}
use Rattle.calculus.specs.Terms.{Reordered, none, keep, swap, step}
use Rattle.calculus.specs.Descent.{Steps, done, more, Normal, tally, Ends}
use Rattle.calculus.proofs.Beneath.Diamond.{Equivalence, Meet, Diamond}
use Rattle.calculus.proofs.Beneath.Perm.{Path_equivalence, perm_refl}

-- Two steps to one state; and a meeting, read from the other side.
module _ {S L : Type 0} {◌≈◌ : S → S → Type 0} {Step : S → L → S → Type 0} (E : Equivalence ◌≈◌) where
  infix 40 ◌≈◌
  pub meet_at : {b c : S} {l m : L} (s : S) → Step b m s → Step c l s → Meet ◌≈◌ Step b l c m
  meet_at s first made =
      record { state = s; first = first; second = record { state = s; made = made; equal = E.same s } }

  pub meet_back : {b c : S} {l m : L} → Meet ◌≈◌ Step b l c m → Meet ◌≈◌ Step c m b l
  meet_back k =
      record {
        state = k.second.state;
        first = k.second.made;
        second = record { state = k.state; made = k.first; equal = E.back k.second.equal };
      }

module _ {S L : Type 0} {◌≈◌ : S → S → Type 0} {Step : S → L → S → Type 0} {Good : S → Type 0}
    (D : Diamond ◌≈◌ Step Good) where
  infix 40 ◌≈◌
  -- Equivalent states go the same ways.
  pub along : {a a' n : S} {M : List L} → Good a → a ≈ a' → Steps Step a M n → Ends ◌≈◌ Step a' [] M n
  along {a' = a'} g e done =
      record { left = []; end = a'; way = done; equal = D.equivalence.back e; labels = none }
  along g e (more {l = l} s w) =
      let r = D.compatible g e s in
      let k = along (D.kept g s) (D.equivalence.back r.equal) w in
      record {
        left = l ∷ k.left;
        end = k.end;
        way = more r.made k.way;
        equal = k.equal;
        labels = keep refl k.labels;
      }

  pub kept-along : {a b : S} {M : List L} → Good a → Steps Step a M b → Good b
  kept-along g done = g
  kept-along g (more s w) = kept-along (D.kept g s) w

  pub normal_along : {a a' : S} → Good a' → a ≈ a' → Normal Step a → Normal Step a'
  normal_along g e h l b s = let r = D.compatible g (D.equivalence.back e) s in h l r.state r.made

  -- One step is on some way to the end.
  pub one_step : {a b n : S} {l : L} {M : List L} → Good a → Steps Step a M n → Normal Step n → Step a l b
      → Ends ◌≈◌ Step b (l ∷ []) M n
  one_step {b = b} {l = l} g done h s = absurd (h l b s)
  one_step g (more {l = m} t w) h s = elim (D.meets g s t) [
    | inl e ↦ let k = along (D.kept g t) (D.equivalence.back e.1) w in
        record { left = k.left; end = k.end; way = k.way; equal = k.equal; labels = keep e.0 k.labels }
    | inr q ↦ let j = one_step (D.kept g t) w h q.second.made in
        let k = along (D.kept (D.kept g t) q.second.made) q.second.equal j.way in
        record {
          left = m ∷ k.left;
          end = k.end;
          way = more q.first k.way;
          equal = D.equivalence.join k.equal j.equal;
          labels = step swap (keep refl (step (keep refl k.labels) j.labels));
        }
  ]

  -- Every way from a is a part of one to the end, with the same labels in all.
  pub descent : {a b n : S} {M M' : List L} → Good a → Steps Step a M n → Normal Step n → Steps Step a M' b
      → Ends ◌≈◌ Step b M' M n
  descent {n = n} {M = M} g w h done =
      record { left = M; end = n; way = w; equal = D.equivalence.same n; labels = perm_refl Path_equivalence M }
  descent g w h (more s v) =
      let k = one_step g w h s in
      let g' = D.kept g s in
      let j = descent g' k.way (normal_along (kept-along g' k.way) (D.equivalence.back k.equal) h) v in
      record {
        left = j.left;
        end = j.end;
        way = j.way;
        equal = D.equivalence.join j.equal k.equal;
        labels = step (keep refl j.labels) k.labels;
      }

pub tally-append : {L : Type 0} (f : L → ℕ) (M N : List L) → tally f (M ++ N) ≡ tally f M + tally f N
tally-append f [] N = omega arith
tally-append f (l ∷ M) N = omega (arith, tally-append f M N)

pub tally_reordered : {L : Type 0} (f : L → ℕ) {M N : List L} → Reordered M N → tally f M ≡ tally f N
tally_reordered f none = refl
tally_reordered f (keep e p) = ap₂ (λ l n. f l + n) e (tally_reordered f p)
tally_reordered f swap = omega arith
tally_reordered f (step p q) = tally_reordered f p ∙ tally_reordered f q

-- A way on to the end, with labels M in all: so far no tally is more than that of M, and where no step is left each is
-- the same.
module _ {S L : Type 0} {◌≈◌ : S → S → Type 0} {Step : S → L → S → Type 0} {b n : S} {spent M : List L}
    (k : Ends ◌≈◌ Step b spent M n) where
  infix 40 ◌≈◌
  tallies : (f : L → ℕ) → tally f spent + tally f k.left ≡ tally f M
  tallies f = sym (tally-append f spent k.left) ∙ tally_reordered f k.labels

  pub at_most : (f : L → ℕ) → tally f spent ≤ tally f M
  at_most f = omega (arith, tallies f)

  pub at_end : Normal Step b → ((f : L → ℕ) → tally f spent ≡ tally f M) × (b ≈ n)
  at_end h = (λ f. omega (arith, tallies f, ap (tally f) stays.0), rw stays.1 k.equal)
    where
      nothing_left : {a c : S} {N : List L} → Normal Step a → Steps Step a N c → (N ≡ []) × (a ≡ c)
      nothing_left h done = (refl, refl)
      nothing_left h (more {b = b} {l = l} s w) = absurd (h l b s)

      stays : (k.left ≡ []) × (b ≡ k.end)
      stays = nothing_left h k.way
