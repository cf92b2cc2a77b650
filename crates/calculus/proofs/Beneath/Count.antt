-- How often names occur: in lists, in terms and equations, and after a substitution.
use Rattle.std.specs.Prelude.{◌≡◌, refl, List, [], ◌∷◌, ◌++◌, map, ◌⊎◌, ℕ, ◌+◌, ◌<◌}
use Rattle.std.proofs.Common.{sym, ◌∙◌, ap, ap₂, inl, inr, arith}
use Rattle.std.proofs.Math.Decide.{ℕ_discrete}
use Rattle.calculus.specs.Terms.{Sort, Tree, var, node, nil, cons, Term, Terms, Eqn, ◌≐◌, Conf, names}
use Rattle.calculus.specs.Terms.{eqn_names, eqs_names, all_names, δ, sum, count, Perm, none, keep, swap}
use Rattle.calculus.specs.Terms.{step, Sides, ◌∼◌, sub, sub_eqn, terms, if_eq, ◌⟦◌/◌⟧}
use Rattle.calculus.proofs.Beneath.Sub.{sub-var, sub-eqs-var}

pub if_yes : {A : Type 0} {x y : ℕ} (a b : A) → x ≡ y → if_eq x y a b ≡ a
unfolding if_eq
if_yes {A} {x} {y} a b e = go (ℕ_discrete x y)
  where
    go : (d : Dec (x ≡ y)) → ◌≡◌ {A = A} (elim d [ yes p ↦ a | no q ↦ b ]) a
    go (yes p) = refl
    go (no q) = absurd (q e)

pub if_no : {A : Type 0} {x y : ℕ} (a b : A) → ¬ (x ≡ y) → if_eq x y a b ≡ b
unfolding if_eq
if_no {A} {x} {y} a b n = go (ℕ_discrete x y)
  where
    go : (d : Dec (x ≡ y)) → ◌≡◌ {A = A} (elim d [ yes p ↦ a | no q ↦ b ]) b
    go (yes p) = absurd (n p)
    go (no q) = refl

-- Two names are equal or not, and what δ is then.
abbrev pub Delta : ℕ → ℕ → Type 0
Delta x y = ((x ≡ y) × (δ x y ≡ 1)) ⊎ ((¬ (x ≡ y)) × (δ x y ≡ 0))

pub δ-cases : (x y : ℕ) → Delta x y
unfolding δ if_eq
δ-cases x y = elim (ℕ_discrete x y) [ yes p ↦ inl (p, if_yes 1 0 p) | no q ↦ inr (q, if_no 1 0 q) ]

pub δ_same : (x : ℕ) → δ x x ≡ 1
δ_same x = elim (δ-cases x x) [ inl h ↦ h.1 | inr h ↦ absurd (h.0 refl) ]

pub δ_other : {x y : ℕ} → ¬ (x ≡ y) → δ x y ≡ 0
δ_other {x} {y} n = elim (δ-cases x y) [ inl h ↦ absurd (n h.0) | inr h ↦ h.1 ]

pub sum-append : (f : ℕ → ℕ) (l m : List ℕ) → sum f (l ++ m) ≡ sum f l + sum f m
sum-append f [] m = omega arith
sum-append f (x ∷ l) m = omega (arith, sum-append f l m)

pub sum_perm : (f : ℕ → ℕ) {l m : List ℕ} → Perm (◌≡◌ {A = ℕ}) l m → sum f l ≡ sum f m
sum_perm f none = refl
sum_perm f (keep e p) = ap₂ (λ x y. f x + y) e (sum_perm f p)
sum_perm f swap = omega arith
sum_perm f (step p q) = sum_perm f p ∙ sum_perm f q

-- Functions that agree on the members of a list have the same sum.
pub sum_ext : (f g : ℕ → ℕ) (l : List ℕ) → ((x : ℕ) → 0 < count x l → f x ≡ g x) → sum f l ≡ sum g l
sum_ext f g [] h = refl
sum_ext f g (x ∷ l) h =
    ap₂ ◌+◌ (h x (omega (arith, δ_same x))) (sum_ext f g l (λ y k. h y (omega arith)))

-- The sum over an equation and those that follow it, and over a configuration, is that over its parts.
pub sum-eqn : (f : ℕ → ℕ) (t u : Term) (l : List Eqn)
    → sum f (eqs_names ((t ≐ u) ∷ l)) ≡ sum f (names t) + (sum f (names u) + sum f (eqs_names l))
sum-eqn f t u l = omega (arith, sum-append f (names t ++ names u) (eqs_names l), sum-append f (names t) (names u))

pub sum-conf : (f : ℕ → ℕ) (C : Conf) → sum f (all_names C) ≡ sum f (names C.face) + sum f (eqs_names C.eqs)
sum-conf f C = sum-append f (names C.face) (eqs_names C.eqs)

pub sum-eqs-append : (f : ℕ → ℕ) (l m : List Eqn)
    → sum f (eqs_names (l ++ m)) ≡ sum f (eqs_names l) + sum f (eqs_names m)
sum-eqs-append f [] m = omega arith
sum-eqs-append f ((t ≐ u) ∷ l) m = omega (arith, sum-eqs-append f l m, sum-eqn f t u (l ++ m), sum-eqn f t u l)

pub sum-eqs : (f : ℕ → ℕ) {l m : List Eqn} → l ∼ m → sum f (eqs_names l) ≡ sum f (eqs_names m)
sum-eqs f none = refl
sum-eqs f (keep {a = a} {b = b} {l = l} {m = m} e p) =
    omega (
      arith,
      sum-append f (eqn_names a) (eqs_names l),
      sum-append f (eqn_names b) (eqs_names m),
      sides e,
      sum-eqs f p,
    )
  where
    sides : {d e : Eqn} → Sides d e → sum f (eqn_names d) ≡ sum f (eqn_names e)
    sides Sides.same = refl
    sides (Sides.turn {t = t} {u = u}) =
        omega (arith, sum-append f (names t) (names u), sum-append f (names u) (names t))
sum-eqs f (swap {a = a} {b = b} {l = l}) =
    omega (
      arith,
      sum-append f (eqn_names a) (eqn_names b ++ eqs_names l),
      sum-append f (eqn_names b) (eqs_names l),
      sum-append f (eqn_names b) (eqn_names a ++ eqs_names l),
      sum-append f (eqn_names a) (eqs_names l),
    )
sum-eqs f (step p q) = sum-eqs f p ∙ sum-eqs f q

-- What a substitution makes of a sum.
pub sum-sub : (f : ℕ → ℕ) (σ : ℕ → Term) {s : Sort} (t : Tree s)
    → sum f (names (sub σ t)) ≡ sum (λ z. sum f (names (σ z))) (names t)
sum-sub f σ (var x) = omega arith
sum-sub f σ (node a ts) = sum-sub f σ ts
sum-sub f σ nil = refl
sum-sub f σ (cons t ts) =
    omega (
      arith,
      sum-append f (names (sub σ t)) (names (sub σ ts)),
      sum-append (λ z. sum f (names (σ z))) (names t) (names ts),
      sum-sub f σ t,
      sum-sub f σ ts,
    )

pub sum-sub-eqs : (f : ℕ → ℕ) (σ : ℕ → Term) (l : List Eqn)
    → sum f (eqs_names (map (sub_eqn σ) l)) ≡ sum (λ z. sum f (names (σ z))) (eqs_names l)
sum-sub-eqs f σ [] = refl
sum-sub-eqs f σ ((t ≐ u) ∷ l) =
    omega (
      arith,
      sum-eqn f (sub σ t) (sub σ u) (map (sub_eqn σ) l),
      sum-eqn (λ z. sum f (names (σ z))) t u l,
      sum-sub f σ t,
      sum-sub f σ u,
      sum-sub-eqs f σ l,
    )

pub sum-terms : (f : ℕ → ℕ) (σ : ℕ → Term) (xs : List ℕ)
    → sum f (names (terms σ xs)) ≡ sum (λ z. sum f (names (σ z))) xs
sum-terms f σ [] = refl
sum-terms f σ (x ∷ xs) = omega (arith, sum-append f (names (σ x)) (names (terms σ xs)), sum-terms f σ xs)

-- Putting t for a name x that occurs once takes that occurrence away and adds those of t.
sum_without : (f : ℕ → ℕ) (x n : ℕ) (l : List ℕ) → count x l ≡ 0 → sum (λ z. if_eq z x n (f z)) l ≡ sum f l
sum_without f x n l h =
    sum_ext (λ z. if_eq z x n (f z)) f l (λ z k. if_no n (f z) (λ e. omega (arith, h, k, ap (λ y. count y l) e)))

sum-once : (f : ℕ → ℕ) (x n : ℕ) (l : List ℕ) → count x l ≡ 1 → sum (λ z. if_eq z x n (f z)) l + f x ≡ sum f l + n
sum-once f x n [] h = absurd (omega arith)
sum-once f x n (y ∷ l) h = elim (δ-cases x y) [
  | inl e ↦ omega (arith, sum_without f x n l (omega (arith, e.1)), if_yes n (f y) (sym e.0), ap f e.0)
  | inr e ↦ omega (arith, sum-once f x n l (omega (arith, e.1)), if_no n (f y) (λ q. e.0 (sym q)))
]

pub sum_put : (f : ℕ → ℕ) {s : Sort} (u : Tree s) (t : Term) (x : ℕ) → count x (names u) ≡ 1
    → sum f (names (u ⟦ t / x ⟧)) + f x ≡ sum f (names u) + sum f (names t)
sum_put f u t x h =
    omega (
      arith,
      sum-sub f (λ y. if_eq y x t (var y)) u,
      sum_ext
          (λ z. sum f (names (if_eq z x t (var z))))
          (λ z. if_eq z x (sum f (names t)) (f z))
          (names u)
          (λ z k. inside z),
      sum-once f x (sum f (names t)) (names u) h,
    )
  where
    inside : (z : ℕ) → sum f (names (if_eq z x t (var z))) ≡ if_eq z x (sum f (names t)) (f z)
    inside z = elim (ℕ_discrete z x) [
      | yes p ↦ ap (λ v. sum f (names v)) (if_yes t (var z) p) ∙ sym (if_yes (sum f (names t)) (f z) p)
      | no q ↦ ap (λ v. sum f (names v)) (if_no t (var z) q) ∙ omega (arith, if_no (sum f (names t)) (f z) q)
    ]

-- Substitutions that agree on the names of a term, or of equations, make the same of it.
pub sub_ext : {s : Sort} (σ τ : ℕ → Term) (t : Tree s)
    → ((x : ℕ) → 0 < count x (names t) → σ x ≡ τ x) → sub σ t ≡ sub τ t
sub_ext σ τ (var x) h = h x (omega (arith, δ_same x))
sub_ext σ τ (node a ts) h = ap (node a) (sub_ext σ τ ts h)
sub_ext σ τ nil h = refl
sub_ext σ τ (cons t ts) h =
    ap₂
    cons
    (sub_ext σ τ t (λ x k. h x (omega (arith, sum-append (δ x) (names t) (names ts)))))
    (sub_ext σ τ ts (λ x k. h x (omega (arith, sum-append (δ x) (names t) (names ts)))))

pub sub-eqs_ext : (σ τ : ℕ → Term) (l : List Eqn)
    → ((x : ℕ) → 0 < count x (eqs_names l) → σ x ≡ τ x) → map (sub_eqn σ) l ≡ map (sub_eqn τ) l
sub-eqs_ext σ τ [] h = refl
sub-eqs_ext σ τ ((t ≐ u) ∷ l) h =
    ap₂
    ◌∷◌
    (ap₂
    ◌≐◌
    (sub_ext σ τ t (λ x k. h x (omega (arith, sum-eqn (δ x) t u l))))
    (sub_ext σ τ u (λ x k. h x (omega (arith, sum-eqn (δ x) t u l)))))
    (sub-eqs_ext σ τ l (λ x k. h x (omega (arith, sum-eqn (δ x) t u l))))

-- So one that fixes the names leaves it as it is.
pub sub-fixed : {s : Sort} (σ : ℕ → Term) (t : Tree s) → ((x : ℕ) → 0 < count x (names t) → σ x ≡ var x) → sub σ t ≡ t
sub-fixed σ t h = sub_ext σ var t h ∙ sub-var t

pub sub-eqs-fixed : (σ : ℕ → Term) (l : List Eqn)
    → ((x : ℕ) → 0 < count x (eqs_names l) → σ x ≡ var x) → map (sub_eqn σ) l ≡ l
sub-eqs-fixed σ l h = sub-eqs_ext σ var l h ∙ sub-eqs-var l

-- Substitutions that stand for the same terms on a list of names agree on its members.
abbrev pub first_term : Terms → Term → Term
first_term nil d = d
first_term (cons t ts) d = t

abbrev pub rest_terms : Terms → Terms
rest_terms nil = nil
rest_terms (cons t ts) = ts

pub terms-agree : (σ τ : ℕ → Term) (l : List ℕ) → terms σ l ≡ terms τ l → (x : ℕ) → 0 < count x l → σ x ≡ τ x
terms-agree σ τ [] e x k = absurd (omega arith)
terms-agree σ τ (y ∷ l) e x k = elim (δ-cases x y) [
  | inl h ↦ rw h.0 (ap (λ ts. first_term ts (σ y)) e)
  | inr h ↦ terms-agree σ τ l (ap rest_terms e) x (omega (arith, h.1))
]
