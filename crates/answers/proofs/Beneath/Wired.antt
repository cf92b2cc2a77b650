-- How often a name occurs in ties and joins, in their agents, and in stuck pairs.
use Rattle.std.specs.Prelude.{◌≡◌, refl, List, [], ◌∷◌, ◌++◌, ℕ, ◌+◌, ◌≤◌}
use Rattle.std.proofs.Common.{◌∙◌, arith}
use Rattle.calculus.specs.Terms.{none, keep, swap, step, var, node, Term, Eqn, ◌≐◌, Sides, ◌∼◌, names, eqs_names, δ}
use Rattle.calculus.specs.Terms.{count}
use Rattle.calculus.proofs.Beneath.Count.{sum-append}
use Rattle.answers.specs.Answer.{stuck_pair, stuck, sides}

-- How often a name occurs in the ties and joins of some equations; and how often within their agents.
abbrev pub wire : ℕ → Term → Term → ℕ
wire x (var y) u = δ x y + count x (names u)
wire x (node a ts) (var y) = δ x y + count x (names ts)
wire x (node a ts) (node b us) = 0

abbrev pub wired : ℕ → List Eqn → ℕ
wired x [] = 0
wired x ((t ≐ u) ∷ l) = wire x t u + wired x l

abbrev pub inside : ℕ → Term → Term → ℕ
inside x (var y) (var z) = 0
inside x (var y) (node b us) = count x (names us)
inside x (node a ts) (var y) = count x (names ts)
inside x (node a ts) (node b us) = 0

abbrev pub inner : ℕ → List Eqn → ℕ
inner x [] = 0
inner x ((t ≐ u) ∷ l) = inside x t u + inner x l

inside-wire : (x : ℕ) (t u : Term) → inside x t u ≤ wire x t u
inside-wire x (var y) (var z) = omega arith
inside-wire x (var y) (node b us) = omega arith
inside-wire x (node a ts) (var y) = omega arith
inside-wire x (node a ts) (node b us) = omega arith

pub inner-wired : (x : ℕ) (l : List Eqn) → inner x l ≤ wired x l
inner-wired x [] = omega arith
inner-wired x ((t ≐ u) ∷ l) = omega (arith, inside-wire x t u, inner-wired x l)

wire-turn : (x : ℕ) (t u : Term) → (wire x t u ≡ wire x u t) × (inside x t u ≡ inside x u t)
wire-turn x (var y) (var z) = (omega arith, refl)
wire-turn x (var y) (node b us) = (refl, refl)
wire-turn x (node a ts) (var y) = (refl, refl)
wire-turn x (node a ts) (node b us) = (refl, refl)

wire-sides : (x : ℕ) {t u s r : Term} → Sides (t ≐ u) (s ≐ r)
    → (wire x t u ≡ wire x s r) × (inside x t u ≡ inside x s r)
wire-sides x Sides.same = (refl, refl)
wire-sides x {t} {u} Sides.turn = wire-turn x t u

pub wired-∼ : (x : ℕ) {l m : List Eqn} → l ∼ m → wired x l ≡ wired x m
wired-∼ x none = refl
wired-∼ x (keep {a = t ≐ u} {b = s ≐ r} e p) = omega (arith, (wire-sides x e).0, wired-∼ x p)
wired-∼ x (swap {a = t ≐ u} {b = s ≐ r} {l = l}) = omega arith
wired-∼ x (step p q) = wired-∼ x p ∙ wired-∼ x q

pub inner-∼ : (x : ℕ) {l m : List Eqn} → l ∼ m → inner x l ≡ inner x m
inner-∼ x none = refl
inner-∼ x (keep {a = t ≐ u} {b = s ≐ r} e p) = omega (arith, (wire-sides x e).1, inner-∼ x p)
inner-∼ x (swap {a = t ≐ u} {b = s ≐ r} {l = l}) = omega arith
inner-∼ x (step p q) = inner-∼ x p ∙ inner-∼ x q

pub stuck-names : (x : ℕ) (l : List Eqn) → count x (names (sides (stuck l))) + wired x l ≡ count x (eqs_names l)
stuck-names x [] = refl
stuck-names x ((t ≐ u) ∷ l) =
    omega (
      arith,
      go t u,
      stuck-names x l,
      sum-append (δ x) (names t ++ names u) (eqs_names l),
      sum-append (δ x) (names t) (names u),
    )
  where
    go : (t u : Term)
        → count x (names (sides (stuck_pair t u ++ stuck l))) + wire x t u ≡ count x (names t) + count x (names u) + count x (names (sides (stuck l)))
    go (var y) u = omega arith
    go (node a ts) (var y) = omega arith
    go (node a ts) (node b us) =
        omega (
          arith,
          sum-append (δ x) (names ts) (names us ++ names (sides (stuck l))),
          sum-append (δ x) (names us) (names (sides (stuck l))),
        )
