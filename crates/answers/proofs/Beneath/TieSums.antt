-- Sums over the ties of some equations, and over the ties of two parts of them.
use Rattle.std.specs.Prelude.{◌≡◌, refl, List, [], ◌∷◌, ◌++◌, ℕ, suc, ◌+◌}
use Rattle.std.proofs.Common.{◌∙◌, ap₂, arith}
use Rattle.calculus.specs.Terms.{none, keep, swap, step, var, node, Term, Eqn, ◌≐◌, Sides, ◌∼◌}
use Rattle.calculus.proofs.Beneath.Perm.{perm_append_left, perm_append_right, perm_shift}
use Rattle.calculus.proofs.Beneath.Sub.{Sides_equivalence, whole}
use Rattle.answers.specs.Answer.{agents, tie_agents, tied_agents}
use Rattle.answers.specs.Knots.{Tied}
use Rattle.answers.proofs.Beneath.Ties.{tied_head, tied_turned, tied_more}

-- A tie of a part is one of the whole.
pub tied_first : {l : List Eqn} (k m : List Eqn) → l ∼ k ++ m → (x : ℕ) → Tied k x → Tied l x
tied_first k m p x t =
    record {
      symbol = t.symbol;
      args = t.args;
      others = t.others ++ m;
      equation = step p (perm_append_right Sides_equivalence m t.equation);
    }

pub tied_second : {l : List Eqn} (k m : List Eqn) → l ∼ k ++ m → (x : ℕ) → Tied m x → Tied l x
tied_second k m p x t =
    record {
      symbol = t.symbol;
      args = t.args;
      others = k ++ t.others;
      equation =
          step
          p
          (step
          (perm_append_left Sides_equivalence k t.equation)
          (perm_shift Sides_equivalence k (var x ≐ node t.symbol t.args) t.others));
    }

-- The sum of some function of the name and the number of agents.
module _ (g : ℕ → ℕ → ℕ) where
  abbrev tie_sum : Term → Term → ℕ
  tie_sum (var x) (var y) = 0
  tie_sum (var x) (node b us) = g x (suc (agents us))
  tie_sum (node a ts) (var y) = g y (suc (agents ts))
  tie_sum (node a ts) (node b us) = 0

  abbrev pub ties_sum : List Eqn → ℕ
  ties_sum [] = 0
  ties_sum ((t ≐ u) ∷ l) = tie_sum t u + ties_sum l

  tie_sum-sides : {t u s r : Term} → Sides (t ≐ u) (s ≐ r) → tie_sum t u ≡ tie_sum s r
  tie_sum-sides Sides.same = refl
  tie_sum-sides {t} {u} Sides.turn = go t u
    where
      go : (t u : Term) → tie_sum t u ≡ tie_sum u t
      go (var x) (var y) = refl
      go (var x) (node b us) = refl
      go (node a ts) (var y) = refl
      go (node a ts) (node b us) = refl

  pub ties_sum-∼ : {l m : List Eqn} → l ∼ m → ties_sum l ≡ ties_sum m
  ties_sum-∼ none = refl
  ties_sum-∼ (keep {a = t ≐ u} {b = s ≐ r} e p) = ap₂ ◌+◌ (tie_sum-sides e) (ties_sum-∼ p)
  ties_sum-∼ (swap {a = t ≐ u} {b = s ≐ r} {l = l}) = omega arith
  ties_sum-∼ (step p q) = ties_sum-∼ p ∙ ties_sum-∼ q

  pub ties_sum-append : (l m : List Eqn) → ties_sum (l ++ m) ≡ ties_sum l + ties_sum m
  ties_sum-append [] m = omega arith
  ties_sum-append ((t ≐ u) ∷ l) m = omega (arith, ties_sum-append l m)

  -- Where the function counts each tie in full, and where it counts none.
  pub all_counted : (l : List Eqn) → ((x n : ℕ) → Tied l x → g x n ≡ n) → ties_sum l ≡ tied_agents l
  all_counted [] h = refl
  all_counted ((t ≐ u) ∷ l) h =
      ap₂ ◌+◌ (go t u h) (all_counted l (λ x n k. h x n (tied_more (whole ((t ≐ u) ∷ l)) k)))
    where
      go : (t u : Term) → ((x n : ℕ) → Tied ((t ≐ u) ∷ l) x → g x n ≡ n) → tie_sum t u ≡ tie_agents t u
      go (var x) (var y) h = refl
      go (var x) (node b us) h = h x (suc (agents us)) (tied_head x b us l)
      go (node a ts) (var y) h = h y (suc (agents ts)) (tied_turned y a ts l)
      go (node a ts) (node b us) h = refl

  pub none_counted : (l : List Eqn) → ((x n : ℕ) → Tied l x → g x n ≡ 0) → ties_sum l ≡ 0
  none_counted [] h = refl
  none_counted ((t ≐ u) ∷ l) h =
      ap₂ ◌+◌ (go t u h) (none_counted l (λ x n k. h x n (tied_more (whole ((t ≐ u) ∷ l)) k)))
    where
      go : (t u : Term) → ((x n : ℕ) → Tied ((t ≐ u) ∷ l) x → g x n ≡ 0) → tie_sum t u ≡ 0
      go (var x) (var y) h = refl
      go (var x) (node b us) h = h x (suc (agents us)) (tied_head x b us l)
      go (node a ts) (var y) h = h y (suc (agents ts)) (tied_turned y a ts l)
      go (node a ts) (node b us) h = refl

-- Two ways to part some equations, alike in which ties are in the second part.
pub same_agents : (P : ℕ → Type 0) (test : (x : ℕ) → Dec (P x)) (l k m : List Eqn) → l ∼ k ++ m
    → ((x : ℕ) → Tied k x → P x → ⊥) → ((x : ℕ) → Tied m x → P x)
    → tied_agents m ≡ ties_sum (λ x n. elim (test x) [ yes p ↦ n | no q ↦ 0 ]) l
same_agents P test l k m p f h =
    omega (
      arith,
      ties_sum-∼ g p,
      ties_sum-append g k m,
      none_counted g k (λ x n t. no_one x n (test x) (f x t)),
      all_counted g m (λ x n t. each x n (test x) (h x t)),
    )
  where
    g : ℕ → ℕ → ℕ
    g x n = elim (test x) [ yes p ↦ n | no q ↦ 0 ]

    no_one : (x n : ℕ) (d : Dec (P x)) → (P x → ⊥) → ◌≡◌ {A = ℕ} (elim d [ yes p ↦ n | no q ↦ 0 ]) 0
    no_one x n (yes p) h = absurd (h p)
    no_one x n (no q) h = refl

    each : (x n : ℕ) (d : Dec (P x)) → P x → ◌≡◌ {A = ℕ} (elim d [ yes p ↦ n | no q ↦ 0 ]) n
    each x n (yes p) h = refl
    each x n (no q) h = absurd (q h)
