-- What each rule of Definition 3 does to the occurrences of a name; so each keeps configurations valid.
use Rattle.std.specs.Prelude.{◌≡◌, refl, ◌∷◌, ◌++◌, map, ◌⊎◌, ℕ, ◌+◌, ◌≤◌}
use Rattle.std.proofs.Common.{◌∙◌, ap, inl, inr, arith}
use Rattle.calculus.specs.Terms.{var, node, ◌≐◌, Conf, names, eqs_names, δ, sum}
use Rattle.calculus.specs.Terms.{count, occurs, sub_eqn, terms, ◌⟦◌/◌⟧}
use Rattle.calculus.specs.Calculus.{Valid, Closed, Rule, Proper, Book, Sound, Communication, Substitution}
use Rattle.calculus.specs.Calculus.{Collect, Interaction, Label, Step, communication, interaction, Arrow}
use Rattle.calculus.specs.Calculus.{Reduction, taken, substitution, collect}
use Rattle.calculus.proofs.Beneath.Count.{δ_same, δ-cases, sum-append, sum_perm, sum-eqn, sum-conf, sum-eqs}
use Rattle.calculus.proofs.Beneath.Count.{sum-eqs-append, sum-sub-eqs, sum-terms, sum_ext, sum_put}
use Rattle.calculus.proofs.Beneath.Carry.{chosen-once}

-- The occurrences before a Communication.
pub occurs_before : {C D : Conf} (c : Communication C D) (y : ℕ)
    → occurs y C
    ≡ count y (names C.face)
    + (δ y c.x + count y (names c.t) + (δ y c.x + count y (names c.u) + count y (eqs_names c.Δ)))
occurs_before {C} c y =
    omega (
      arith,
      sum-conf (δ y) C,
      sum-eqs (δ y) c.before,
      sum-eqn (δ y) (var c.x) c.t ((var c.x ≐ c.u) ∷ c.Δ),
      sum-eqn (δ y) (var c.x) c.u c.Δ,
    )

-- A Communication takes two occurrences of its name away.
pub occurs-communication : {C D : Conf} (c : Communication C D) (y : ℕ)
    → occurs y C ≡ occurs y D + (δ y c.x + δ y c.x)
occurs-communication {C} {D} c y =
    omega (
      arith,
      occurs_before c y,
      sum-conf (δ y) D,
      ap (λ t. count y (names t)) c.face,
      sum-eqs (δ y) c.after,
      sum-eqn (δ y) c.t c.u c.Δ,
    )

-- So does a Substitution in a valid configuration: there its name is once a side and once inside.
pub occurs-substitution : {C D : Conf} → Valid C → (c : Substitution C D) (y : ℕ)
    → occurs y C ≡ occurs y D + (δ y c.x + δ y c.x)
occurs-substitution {C} {D} v c y =
    omega (
      arith,
      before y,
      sum-conf (δ y) D,
      ap (λ t. count y (names t)) c.face,
      sum-eqs (δ y) c.after,
      sum-eqn (δ y) (node c.α (c.us ⟦ c.t / c.x ⟧)) c.s c.Δ,
      sum_put (δ y) c.us c.t c.x (omega (arith, before c.x, v c.x, δ_same c.x, c.inside)),
    )
  where
    before : (y : ℕ)
        → occurs y C
        ≡ count y (names C.face)
        + (δ y c.x
        + count y (names c.t)
        + (count y (names c.us) + count y (names c.s) + count y (eqs_names c.Δ)))
    before y =
        omega (
          arith,
          sum-conf (δ y) C,
          sum-eqs (δ y) c.before,
          sum-eqn (δ y) (var c.x) c.t ((node c.α c.us ≐ c.s) ∷ c.Δ),
          sum-eqn (δ y) (node c.α c.us) c.s c.Δ,
        )

-- And a Collect.
pub occurs-collect : {C D : Conf} → Valid C → (c : Collect C D) (y : ℕ)
    → occurs y C ≡ occurs y D + (δ y c.x + δ y c.x)
occurs-collect {C} {D} v c y =
    omega (
      arith,
      before y,
      sum-conf (δ y) D,
      ap (λ t. count y (names t)) c.face,
      sum-eqs (δ y) c.after,
      sum_put (δ y) C.face c.t c.x (omega (arith, before c.x, v c.x, δ_same c.x, c.inside)),
    )
  where
    before : (y : ℕ)
        → occurs y C ≡ count y (names C.face) + (δ y c.x + count y (names c.t) + count y (eqs_names c.Δ))
    before y =
        omega (arith, sum-conf (δ y) C, sum-eqs (δ y) c.before, sum-eqn (δ y) (var c.x) c.t c.Δ)

-- The occurrences before an Interaction.
pub occurs-redex : {r : Rule} {C D : Conf} (c : Interaction r C D) (y : ℕ)
    → occurs y C
    ≡ count y (names C.face)
    + (count y (names (terms c.σ r.xs)) + count y (names (terms c.σ r.ys)) + count y (eqs_names c.Δ))
occurs-redex {r} {C} c y =
    omega (
      arith,
      sum-conf (δ y) C,
      sum-eqs (δ y) c.before,
      sum-eqn (δ y) (node r.left (terms c.σ r.xs)) (node r.right (terms c.σ r.ys)) c.Δ,
    )

-- The sum over the right side of a rule.
pub sum_body : {r : Rule} → Proper r → (f : ℕ → ℕ)
    → sum f (eqs_names r.body) ≡ sum f r.xs + (sum f r.ys + (sum f r.new + sum f r.new))
sum_body {r} p f =
    omega (
      arith,
      sum_perm f p.linear,
      sum-append f r.xs (r.ys ++ (r.new ++ r.new)),
      sum-append f r.ys (r.new ++ r.new),
      sum-append f r.new r.new,
    )

-- An Interaction adds two occurrences of each name chosen for a new one.
pub occurs-interaction : {r : Rule} {C D : Conf} (c : Interaction r C D) → Proper r → (y : ℕ)
    → occurs y D ≡ occurs y C + (sum (λ z. δ y (c.name z)) r.new + sum (λ z. δ y (c.name z)) r.new)
occurs-interaction {r} {C} {D} c p y =
    let g : ℕ → ℕ = λ z. sum (δ y) (names (c.σ z)) in
    omega (
      arith,
      occurs-redex c y,
      sum-conf (δ y) D,
      ap (λ t. count y (names t)) c.face,
      sum-eqs (δ y) c.after,
      sum-terms (δ y) c.σ r.xs,
      sum-terms (δ y) c.σ r.ys,
      sum-eqs-append (δ y) (map (sub_eqn c.σ) r.body) c.Δ,
      sum-sub-eqs (δ y) c.σ r.body,
      sum_body p g,
      sum_ext g (λ z. δ y (c.name z)) r.new (λ z k. ap (λ t. count y (names t)) (c.chosen z k) ∙ omega arith),
    )

-- A property of the number of occurrences that two has, and that taking two away keeps, is kept by every step.
pub record Kind (P : ℕ → Type 0) : Type 0 where
  pub two : P 2
  pub less : (n : ℕ) → P (n + 2) → P n

module _ {P : ℕ → Type 0} (K : Kind P) (C D : Conf) (h : (x : ℕ) → P (occurs x C)) where
  less_two : (x y : ℕ) → occurs y C ≡ occurs y D + (δ y x + δ y x) → P (occurs y D)
  less_two x y q = elim (δ-cases y x) [
    | inl e ↦ let q' : occurs y C ≡ occurs y D + 2 = omega (arith, q, e.1) in K.less (occurs y D) (rw q' at (h y))
    | inr e ↦ let q' : occurs y C ≡ occurs y D = omega (arith, q, e.1) in rw q' at (h y)
  ]

  two_more : {r : Rule} → Proper r → Interaction r C D → (y : ℕ) → P (occurs y D)
  two_more {r} p c y = elim (chosen-once r.new different c.choice y) [
    | inl e ↦ let q : occurs y C ≡ occurs y D = omega (arith, occurs-interaction c p y, e) in rw q at (h y)
    | inr e ↦ let q : occurs y D ≡ 2 = omega (arith, occurs-interaction c p y, e.0, e.1) in rw q K.two
  ]
    where
      different : (x : ℕ) → count x r.new ≤ 1
      different x =
          omega (arith, p.different x, sum-append (δ x) r.xs (r.ys ++ r.new), sum-append (δ x) r.ys r.new)

pub kept : {B : Book} → Sound B → {P : ℕ → Type 0} → Kind P → {C D : Conf} {a : Arrow} → Valid C
    → ((x : ℕ) → P (occurs x C)) → Reduction B C a D → (x : ℕ) → P (occurs x D)
kept S K {C} {D} v h (taken (communication c)) y = less_two K C D h c.x y (occurs-communication c y)
kept S K {C} {D} v h (taken (interaction {i = i} {r = r} b c)) y = two_more K C D h (S.proper i r b) c y
kept S K {C} {D} v h (substitution c) y = less_two K C D h c.x y (occurs-substitution v c y)
kept S K {C} {D} v h (collect c) y = less_two K C D h c.x y (occurs-collect v c y)

pub reduction_valid : {B : Book} → Sound B → {C D : Conf} {a : Arrow} → Valid C → Reduction B C a D → Valid D
reduction_valid S v = kept S {P = λ n. n ≤ 2} (record { two = omega arith; less = λ n h. omega arith }) v v

pub valid-kept : {B : Book} → Sound B → {C D : Conf} {l : Label} → Valid C → Step B C l D → Valid D
valid-kept S v s = reduction_valid S v (taken s)

pub closed-valid : (C : Conf) → Closed C → Valid C
closed-valid C h x = elim (h x) [ inl e ↦ omega (arith, e) | inr e ↦ omega (arith, e) ]

pub closed-kept : {B : Book} → Sound B → {C D : Conf} {l : Label} → Closed C → Step B C l D → Closed D
closed-kept S {C} h s =
    kept S {P = λ n. (n ≡ 0) ⊎ (n ≡ 2)} (record { two = inr refl; less = less }) (closed-valid C h) h (taken s)
  where
    less : (n : ℕ) → (n + 2 ≡ 0) ⊎ (n + 2 ≡ 2) → (n ≡ 0) ⊎ (n ≡ 2)
    less n (inl e) = absurd (omega arith)
    less n (inr e) = inl (omega arith)

-- What occurs once after a step occurred once before it.
pub once_before : {B : Book} → Sound B → {C D : Conf} {l : Label} → Valid C → Step B C l D
    → (x : ℕ) → occurs x D ≡ 1 → occurs x C ≡ 1
once_before S v (communication c) x k = omega (arith, v x, occurs-communication c x)
once_before S v (interaction {i = i} {r = r} b c) x k = omega (arith, occurs-interaction c (S.proper i r b) x)
