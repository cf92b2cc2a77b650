-- What is counted of equations does not depend on their order and sides.
use Rattle.std.specs.Prelude.{◌≡◌, refl, List, ℕ, ◌+◌}
use Rattle.std.proofs.Common.{sym, ◌∙◌, ap₂, arith}
use Rattle.std.proofs.Math.Decide.{ℕ_discrete}
use Rattle.calculus.specs.Terms.{none, keep, swap, step, var, node, Term, Eqn, ◌≐◌, Sides, ◌∼◌, if_eq}
use Rattle.calculus.proofs.Beneath.Perm.{perm_refl, perm_append, perm_exchange}
use Rattle.calculus.proofs.Beneath.Sub.{Sides_equivalence}
use Rattle.calculus.proofs.Beneath.Count.{if_yes, if_no}
use Rattle.answers.specs.Answer.{stuck_pair, stuck, loop, loops, tie_agents, tied_agents}

stuck_pair-sides : {t u s r : Term} → Sides (t ≐ u) (s ≐ r) → stuck_pair t u ∼ stuck_pair s r
stuck_pair-sides {t} {u} Sides.same = perm_refl Sides_equivalence (stuck_pair t u)
stuck_pair-sides {t} {u} Sides.turn = go t u
  where
    go : (t u : Term) → stuck_pair t u ∼ stuck_pair u t
    go (var x) (var y) = none
    go (var x) (node b us) = none
    go (node a ts) (var y) = none
    go (node a ts) (node b us) = keep Sides.turn none

pub stuck-∼ : {l m : List Eqn} → l ∼ m → stuck l ∼ stuck m
stuck-∼ none = none
stuck-∼ (keep {a = t ≐ u} {b = s ≐ r} e p) = perm_append Sides_equivalence (stuck_pair-sides e) (stuck-∼ p)
stuck-∼ (swap {a = t ≐ u} {b = s ≐ r} {l = l}) = perm_exchange Sides_equivalence (stuck_pair t u) (stuck_pair s r) (stuck l)
stuck-∼ (step p q) = step (stuck-∼ p) (stuck-∼ q)

loop-sides : {t u s r : Term} → Sides (t ≐ u) (s ≐ r) → loop t u ≡ loop s r
loop-sides Sides.same = refl
loop-sides {t} {u} Sides.turn = go t u
  where
    turn : (x y : ℕ) → Dec (x ≡ y) → if_eq {A = ℕ} x y 1 0 ≡ if_eq {A = ℕ} y x 1 0
    turn x y (yes p) = if_yes 1 0 p ∙ sym (if_yes 1 0 (sym p))
    turn x y (no q) = if_no 1 0 q ∙ sym (if_no 1 0 (λ e. q (sym e)))

    go : (t u : Term) → loop t u ≡ loop u t
    go (var x) (var y) = turn x y (ℕ_discrete x y)
    go (var x) (node b us) = refl
    go (node a ts) (var y) = refl
    go (node a ts) (node b us) = refl

pub loops-∼ : {l m : List Eqn} → l ∼ m → loops l ≡ loops m
loops-∼ none = refl
loops-∼ (keep {a = t ≐ u} {b = s ≐ r} e p) = ap₂ ◌+◌ (loop-sides e) (loops-∼ p)
loops-∼ (swap {a = t ≐ u} {b = s ≐ r} {l = l}) = omega arith
loops-∼ (step p q) = loops-∼ p ∙ loops-∼ q

tie_agents-sides : {t u s r : Term} → Sides (t ≐ u) (s ≐ r) → tie_agents t u ≡ tie_agents s r
tie_agents-sides Sides.same = refl
tie_agents-sides {t} {u} Sides.turn = go t u
  where
    go : (t u : Term) → tie_agents t u ≡ tie_agents u t
    go (var x) (var y) = refl
    go (var x) (node b us) = refl
    go (node a ts) (var y) = refl
    go (node a ts) (node b us) = refl

pub tied_agents-∼ : {l m : List Eqn} → l ∼ m → tied_agents l ≡ tied_agents m
tied_agents-∼ none = refl
tied_agents-∼ (keep {a = t ≐ u} {b = s ≐ r} e p) = ap₂ ◌+◌ (tie_agents-sides e) (tied_agents-∼ p)
tied_agents-∼ (swap {a = t ≐ u} {b = s ≐ r} {l = l}) = omega arith
tied_agents-∼ (step p q) = tied_agents-∼ p ∙ tied_agents-∼ q
