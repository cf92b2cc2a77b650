-- Renamings, what they do to occurrences, and why being one net is an equivalence.
use Rattle.std.specs.Prelude.{◌≡◌, refl, List, map, ℕ}
use Rattle.std.proofs.Common.{sym, ◌∙◌, ap, inl, inr, arith}
use Rattle.std.proofs.Math.Path.{fun_ext}
use Rattle.std.proofs.Math.Decide.{ℕ_discrete}
use Rattle.calculus.specs.Terms.{var, Term, Conf, names, eqs_names, δ, sum, count, occurs}
use Rattle.calculus.specs.Terms.{step, ◌∼◌, sub, sub_eqn, ren, if_eq}
use Rattle.calculus.specs.Nets.{Renaming, ◌≈◌}
use Rattle.calculus.proofs.Beneath.Diamond.{Equivalence}
use Rattle.calculus.proofs.Beneath.Sub.{≈of, back, whole, sub-∼, sub-var, sub-sub, sub-eqs-var, sub-eqs-sub}
use Rattle.calculus.proofs.Beneath.Count.{if_yes, if_no, δ-cases, δ_same, δ_other, sum-conf}
use Rattle.calculus.proofs.Beneath.Count.{sum-sub, sum-sub-eqs, sum-eqs, sum_ext}

-- The renamed configuration.
abbrev pub rename : (ℕ → ℕ) → Conf → Conf
rename f C = record { face = sub (ren f) C.face; eqs = map (sub_eqn (ren f)) C.eqs }

abbrev pub identity : Renaming
identity = record { to = λ x. x; from = λ x. x; to_from = λ x. refl; from_to = λ x. refl }

abbrev pub inverse : Renaming → Renaming
inverse π = record { to = π.from; from = π.to; to_from = π.from_to; from_to = π.to_from }

-- First π, then ρ.
abbrev pub after : Renaming → Renaming → Renaming
after π ρ =
    record {
      to = λ x. ρ.to (π.to x);
      from = λ x. π.from (ρ.from x);
      to_from = λ x. ap ρ.to (π.to_from (ρ.from x)) ∙ ρ.to_from x;
      from_to = λ x. ap π.from (ρ.from_to (π.to x)) ∙ π.from_to x;
    }

pub injective : (π : Renaming) {x y : ℕ} → π.to x ≡ π.to y → x ≡ y
injective π {x} {y} e = sym (π.from_to x) ∙ ap π.from e ∙ π.from_to y

undo : (π : Renaming) → ◌≡◌ {A = ℕ → Term} (λ x. var (π.from (π.to x))) var
undo π = fun_ext (λ x. ap var (π.from_to x))

-- A renaming carries each name's occurrences with it.
δ_to : (π : Renaming) (y z : ℕ) → δ y (π.to z) ≡ δ (π.from y) z
δ_to π y z = elim (δ-cases y (π.to z)) [
  | inl h ↦ h.1 ∙ sym (δ_same z) ∙ ap (λ x. δ x z) (sym (ap π.from h.0 ∙ π.from_to z))
  | inr h ↦ h.1 ∙ sym (δ_other (λ e. h.0 (sym (π.to_from y) ∙ ap π.to e)))
]

sum_to : (π : Renaming) (y : ℕ) (l : List ℕ) → sum (λ z. sum (δ y) (names (ren π.to z))) l ≡ count (π.from y) l
sum_to π y l = sum_ext (λ z. sum (δ y) (names (ren π.to z))) (δ (π.from y)) l (λ z k. omega (arith, δ_to π y z))

pub occurs-rename : (π : Renaming) (y : ℕ) (C : Conf) → occurs y (rename π.to C) ≡ occurs (π.from y) C
occurs-rename π y C =
    omega (
      arith,
      sum-conf (δ y) (rename π.to C),
      sum-conf (δ (π.from y)) C,
      sum-sub (δ y) (ren π.to) C.face,
      sum_to π y (names C.face),
      sum-sub-eqs (δ y) (ren π.to) C.eqs,
      sum_to π y (eqs_names C.eqs),
    )

-- Two configurations alike have the same occurrences.
pub occurs-alike : {C D : Conf} → C.face ≡ D.face → C.eqs ∼ D.eqs → (y : ℕ) → occurs y C ≡ occurs y D
occurs-alike {C} {D} e p y =
    omega (arith, sum-conf (δ y) C, sum-conf (δ y) D, ap (λ t. count y (names t)) e, sum-eqs (δ y) p)

-- A name occurs as often as the name that stands for it.
pub occurs_same : {C D : Conf} (h : C ≈ D) (y : ℕ) → occurs (h.names_by.to y) D ≡ occurs y C
occurs_same {C} h y =
    sym (occurs-alike {C = rename h.names_by.to C} h.face h.eqs (h.names_by.to y))
    ∙ occurs-rename h.names_by (h.names_by.to y) C
    ∙ ap (λ x. occurs x C) (h.names_by.from_to y)

-- The same interface, and equations alike.
pub ≈-alike : {C D : Conf} → C.face ≡ D.face → C.eqs ∼ D.eqs → C ≈ D
≈-alike {C} e p =
    record {
      names_by = identity;
      face = sub-var C.face ∙ e;
      eqs = step (≈of (sub-eqs-var C.eqs)) p;
      free = λ x k. refl;
    }

-- A renamed configuration is the same net.
pub ≈-rename : (π : Renaming) (C : Conf) → ((x : ℕ) → occurs x C ≡ 1 → π.to x ≡ x) → C ≈ rename π.to C
≈-rename π C h = record { names_by = π; face = refl; eqs = whole _; free = h }

pub ≈_refl : (C : Conf) → C ≈ C
≈_refl C = ≈-alike refl (whole C.eqs)

pub ≈_sym : {C D : Conf} → C ≈ D → D ≈ C
≈_sym {C} {D} h =
    record {
      names_by = inverse π;
      face =
          ap (sub (ren π.from)) (sym h.face)
          ∙ sub-sub (ren π.from) (ren π.to) C.face
          ∙ ap (λ σ. sub σ C.face) (undo π)
          ∙ sub-var C.face;
      eqs =
          step
          (back (sub-∼ (ren π.from) h.eqs))
          (≈of
          (sub-eqs-sub (ren π.from) (ren π.to) C.eqs
          ∙ ap (λ σ. map (sub_eqn σ) C.eqs) (undo π)
          ∙ sub-eqs-var C.eqs));
      free = λ x k.
          sym (h.free (π.from x) (sym (occurs_same h (π.from x)) ∙ ap (λ y. occurs y D) (π.to_from x) ∙ k))
          ∙ π.to_from x;
    }
  where
    π : Renaming
    π = h.names_by

pub ≈_trans : {C D E : Conf} → C ≈ D → D ≈ E → C ≈ E
≈_trans {C} {D} {E} h k =
    record {
      names_by = after h.names_by k.names_by;
      face = sym (sub-sub ρ π C.face) ∙ ap (sub ρ) h.face ∙ k.face;
      eqs = step (≈of (sym (sub-eqs-sub ρ π C.eqs))) (step (sub-∼ ρ h.eqs) k.eqs);
      free = λ x q.
          ap k.names_by.to (h.free x q)
          ∙ k.free x (ap (λ y. occurs y D) (sym (h.free x q)) ∙ occurs_same h x ∙ q);
    }
  where
    π : ℕ → Term
    π = ren h.names_by.to

    ρ : ℕ → Term
    ρ = ren k.names_by.to

pub ≈-equivalence : Equivalence ◌≈◌
≈-equivalence = record { same = ≈_refl; back = ≈_sym; join = ≈_trans }

-- The renaming that exchanges two names.
pub exchange : ℕ → ℕ → ℕ → ℕ
exchange a b x = if_eq x a b (if_eq x b a x)

pub exchange_left : (a b : ℕ) → exchange a b a ≡ b
unfolding exchange
exchange_left a b = if_yes b (if_eq a b a a) refl

pub exchange_other : {a b x : ℕ} → ¬ (x ≡ a) → ¬ (x ≡ b) → exchange a b x ≡ x
unfolding exchange
exchange_other {a} {b} {x} m n = if_no b (if_eq x b a x) m ∙ if_no a x n

pub exchange_right : (a b : ℕ) → exchange a b b ≡ a
unfolding exchange
exchange_right a b = elim (ℕ_discrete b a) [
  | yes p ↦ if_yes b (if_eq b b a b) p ∙ p
  | no q ↦ if_no b (if_eq b b a b) q ∙ if_yes a b refl
]

pub exchange-twice : (a b x : ℕ) → exchange a b (exchange a b x) ≡ x
exchange-twice a b x = elim (ℕ_discrete x a) [
  | yes p ↦ rw p (rw (exchange_left a b) (exchange_right a b))
  | no q ↦ elim (ℕ_discrete x b) [
    | yes p ↦ rw p (rw (exchange_right a b) (exchange_left a b))
    | no r ↦ rw (exchange_other q r) (exchange_other q r)
  ]
]

abbrev pub exchanging : ℕ → ℕ → Renaming
exchanging a b =
    record { to = exchange a b; from = exchange a b; to_from = exchange-twice a b; from_to = exchange-twice a b }
