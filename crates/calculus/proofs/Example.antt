-- The listing of document 01: its rules are a sound book, and its net reaches its end by two Interactions.
use Rattle.std.specs.Prelude.{◌≡◌, refl, List, [], ◌∷◌, ℕ, ◌≤◌, ◌<◌}
use Rattle.std.proofs.Common.{sym, ◌∙◌, inl, inr, arith}
use Rattle.std.proofs.Math.Decide.{ℕ_discrete}
use Rattle.calculus.specs.Terms.{var, nil, cons, Term, ◌≐◌, Conf, δ, count}
use Rattle.calculus.specs.Terms.{keep, swap, step, Sides, if_eq}
use Rattle.calculus.specs.Calculus.{Valid, Proper, SamePair, Book, Sound, Substitution, Collect}
use Rattle.calculus.specs.Calculus.{Interaction, Label, Int, Step, interaction, Reduction}
use Rattle.calculus.specs.Calculus.{substituting, collecting, substitution, collect}
use Rattle.calculus.specs.Descent.{Steps, done, more, Normal}
use Rattle.calculus.specs.Order.{Agreed}
use Rattle.calculus.proofs.Order.{order_does_not_matter}
use Rattle.calculus.specs.Rules.{listed}
use Rattle.calculus.specs.Listing.{add, S, Z, add_S, add_Z, start}
use Rattle.calculus.proofs.Beneath.Sub.{whole}
use Rattle.calculus.proofs.Beneath.Count.{δ-cases}
use Rattle.calculus.proofs.Beneath.Ended.{named_idle, ended_normal}
use Rattle.calculus.proofs.Beneath.Rules.{listed-sound, distinct-different, reordered_of_counts}

abbrev book : Book
book = listed (add_S ∷ add_Z ∷ [])

-- ⟨ r | add(r,S(Z)) = S(Z) ⟩ ⟶ ⟨ r | r = S(w), Z = add(w,S(Z)) ⟩ ⟶ ⟨ r | r = S(w), w = S(Z) ⟩, with r and w the names
-- 0 and 1.
abbrev middle : Conf
middle = record { face = cons (var 0) nil; eqs = (var 0 ≐ S (var 1)) ∷ (Z ≐ add (var 1) (S Z)) ∷ [] }

abbrev finish : Conf
finish = record { face = cons (var 0) nil; eqs = (var 0 ≐ S (var 1)) ∷ (var 1 ≐ S Z) ∷ [] }

pub add_S-proper : Proper add_S
unfolding δ ℕ_discrete
add_S-proper =
    record {
      different = distinct-different (0 ∷ 1 ∷ 4 ∷ 8 ∷ []) (refl, (refl, (refl, (refl, tt))));
      linear = reordered_of_counts (0 ∷ 8 ∷ 4 ∷ 8 ∷ 1 ∷ []) (0 ∷ 1 ∷ 4 ∷ 8 ∷ 8 ∷ []) (λ x. omega arith);
      two_sided = λ e. absurd (omega arith);
    }

pub add_Z-proper : Proper add_Z
unfolding δ ℕ_discrete
add_Z-proper =
    record {
      different = distinct-different (0 ∷ 1 ∷ []) (refl, (refl, tt));
      linear = reordered_of_counts (0 ∷ 1 ∷ []) (0 ∷ 1 ∷ []) (λ x. refl);
      two_sided = λ e. absurd (omega arith);
    }

pub unlike : SamePair add_S add_Z → ⊥
unlike (inl e) = omega (arith, e.1)
unlike (inr e) = omega (arith, e.0)

pub book-sound : Sound book
book-sound = listed-sound (add_S ∷ add_Z ∷ []) (add_S-proper, (add_Z-proper, tt)) ((unlike, tt), (tt, tt))

first_step : Interaction add_S start middle
unfolding δ if_eq ℕ_discrete
first_step =
    record {
      σ = puts;
      name = λ z. 1;
      chosen = λ z k. rw (only z 8 k) refl;
      choice = record { fresh = λ z k. refl; apart = λ y z j k e. only y 8 j ∙ sym (only z 8 k) };
      Δ = [];
      before = whole _;
      after = whole _;
      face = refl;
    }
  where
    only : (z w : ℕ) → 0 < count z (w ∷ []) → z ≡ w
    only z w k = elim (δ-cases z w) [ inl e ↦ e.0 | inr e ↦ absurd (omega (arith, k, e.1)) ]

    puts : ℕ → Term
    puts z = if_eq z 0 (var 0) (if_eq z 1 (S Z) (if_eq z 4 Z (var 1)))

second-step : Interaction add_Z middle finish
second-step =
    record {
      σ = puts;
      name = λ z. z;
      chosen = λ z k. absurd (omega arith);
      choice = record { fresh = λ z k. absurd (omega arith); apart = λ y z j k e. e };
      Δ = (var 0 ≐ S (var 1)) ∷ [];
      before = step swap (keep Sides.turn (whole _));
      after = swap;
      face = refl;
    }
  where
    puts : ℕ → Term
    puts ℕ.zero = var 1
    puts (ℕ.suc n) = S Z

-- Two Interactions, by the first rule and then by the second, lead from the net of the listing to an end.
pub listing-steps : Steps (Step book) start (Int 0 ∷ Int 1 ∷ []) finish
listing-steps = more (interaction refl first_step) (more (interaction refl second-step) done)

apart : (x : ℕ) → count x (0 ∷ 1 ∷ []) ≤ 1
unfolding δ ℕ_discrete
apart = distinct-different (0 ∷ 1 ∷ []) (refl, (refl, tt))

pub listing-ends : Normal (Step book) finish
listing-ends =
    ended_normal (λ x. omega (arith, apart x)) (named_idle book _ (λ h. h), (named_idle book _ (λ h. h), tt))

pub start_valid : Valid start
start_valid x = omega (arith, apart x)

-- So every other sequence of steps from it agrees with these two.
pub listing_agrees : {D : Conf} {M : List Label} → Steps (Step book) start M D
    → Agreed book (Int 0 ∷ Int 1 ∷ []) finish M D
listing_agrees w = order_does_not_matter book-sound start_valid listing-steps listing-ends w

-- The rules that the machine does not take read the answer from the end: ⟨ r | r = S(w), w = S(Z) ⟩ ⟶ ⟨ r | r =
-- S(S(Z)) ⟩ ⟶ ⟨ S(S(Z)) | ⟩.
abbrev answer : Conf
answer = record { face = cons (S (S Z)) nil; eqs = [] }

pub listing-answer : Steps (Reduction book) finish (substituting ∷ collecting ∷ []) answer
unfolding if_eq δ ℕ_discrete
listing-answer = more (substitution followed) (more (collect read) done)
  where
    between : Conf
    between = record { face = cons (var 0) nil; eqs = (S (S Z) ≐ var 0) ∷ [] }

    followed : Substitution finish between
    followed =
        record {
          x = 1;
          t = S Z;
          α = 1;
          us = cons (var 1) nil;
          s = var 0;
          Δ = [];
          inside = omega arith;
          before = step swap (keep Sides.same (keep Sides.turn (whole [])));
          after = whole _;
          face = refl;
        }

    read : Collect between answer
    read =
        record {
          x = 0;
          t = S (S Z);
          Δ = [];
          inside = omega arith;
          before = keep Sides.turn (whole []);
          after = whole [];
          face = refl;
        }
