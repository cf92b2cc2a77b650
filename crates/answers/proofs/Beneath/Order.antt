-- The answer does not depend on the order and the sides of the equations.
use Rattle.std.specs.Prelude.{◌≡◌, refl, [], List, ◌∷◌, ◌⊎◌, ℕ, zero, suc, ◌≤◌}
use Rattle.std.proofs.Common.{sym, ◌∙◌, ap, ap₂, subst, inl, inr, arith}
use Rattle.calculus.specs.Terms.{Perm, none, keep, swap, step, Sort, one, Tree, var, node, nil, cons, Term, Terms, side, touch, touches}
use Rattle.calculus.specs.Terms.{Eqn, ◌≐◌, Sides, ◌∼◌, δ}
use Rattle.calculus.proofs.Beneath.Perm.{perm_refl, perm_cons}
use Rattle.calculus.proofs.Beneath.Sub.{Sides_equivalence, name_of}
use Rattle.calculus.proofs.Beneath.Count.{δ-cases, if_yes, if_no}
use Rattle.calculus.proofs.Beneath.Ended.{touches-∼}
use Rattle.answers.specs.Answer.{Other, none, some, if_name, other, Pick, alone, beside, picked, pick, Found}
use Rattle.answers.specs.Answer.{unknown, known, find, Reader, Reading, named, read_by, read}

-- A term is a given name, or it is not.
pub data Is (x : ℕ) (t : Term) : Type 0 where
  it : t ≡ var x → side x t ≡ 1 → ((a b : Other) → if_name x t a b ≡ a) → Is x t
  not : side x t ≡ 0 → ((a b : Other) → if_name x t a b ≡ b) → Is x t

pub is : (x : ℕ) (t : Term) → Is x t
is x (var y) = go (δ-cases x y)
  where
    go : ((x ≡ y) × (δ x y ≡ 1)) ⊎ ((¬ (x ≡ y)) × (δ x y ≡ 0)) → Is x (var y)
    go (inl h) = it (ap var (sym h.0)) h.1 (λ a b. if_yes a b h.0)
    go (inr h) = not h.1 (λ a b. if_no a b h.0)
is x (node a ts) = not refl (λ a b. refl)

-- The other side is the same whichever side the name is on.
pub other_sides : (x : ℕ) {d e : Eqn} → Sides d e → other x d ≡ other x e
other_sides x Sides.same = refl
other_sides x (Sides.turn {t = t} {u = u}) = go (is x t) (is x u)
  where
    go : Is x t → Is x u → other x (t ≐ u) ≡ other x (u ≐ t)
    go (it e s f) (it e' s' g) =
        f (some u) (if_name x u (some t) none)
        ∙ ap some (e' ∙ sym e)
        ∙ sym (g (some t) (if_name x t (some u) none))
    go (it e s f) (not s' g) =
        f (some u) (if_name x u (some t) none)
        ∙ sym (f (some u) none)
        ∙ sym (g (some t) (if_name x t (some u) none))
    go (not s f) (it e' s' g) =
        f (some u) (if_name x u (some t) none)
        ∙ g (some t) none
        ∙ sym (g (some t) (if_name x t (some u) none))
    go (not s f) (not s' g) =
        f (some u) (if_name x u (some t) none) ∙ g (some t) none ∙ sym (f (some u) none) ∙ sym (g (some t) (if_name x t (some u) none))

-- A name that touches an equation has another side there, and else none.
pub data Touched (x : ℕ) (e : Eqn) : Type 0 where
  touching : (t : Term) → touch x e ≡ 1 → other x e ≡ some t → Sides e (var x ≐ t) → Touched x e
  apart : touch x e ≡ 0 → other x e ≡ none → Touched x e

pub touched : (x : ℕ) (e : Eqn) → Touched x e
touched x (t ≐ u) = go (is x t) (is x u)
  where
    go : Is x t → Is x u → Touched x (t ≐ u)
    go (it e s f) k = touching u (omega (arith, s)) (f (some u) (if_name x u (some t) none)) (rw e Sides.same)
    go (not s f) (it e s' g) =
        touching t (omega (arith, s')) (f (some u) (if_name x u (some t) none) ∙ g (some t) none) (rw e Sides.turn)
    go (not s f) (not s' g) = apart (omega (arith, s, s')) (f (some u) (if_name x u (some t) none) ∙ g (some t) none)

-- Two picks are alike: the same term, and the same rest up to order and sides.
abbrev pub PickAlike : Pick → Pick → Type 0
PickAlike alone alone = Unit {0}
PickAlike alone (beside u m) = ⊥
PickAlike (beside t l) alone = ⊥
PickAlike (beside t l) (beside u m) = (t ≡ u) × (l ∼ m)

alike_refl : (p : Pick) → PickAlike p p
alike_refl alone = tt
alike_refl (beside t l) = (refl, perm_refl Sides_equivalence l)

alike_trans : (p q r : Pick) → PickAlike p q → PickAlike q r → PickAlike p r
alike_trans alone alone alone h k = tt
alike_trans alone alone (beside t l) h k = absurd k
alike_trans alone (beside t l) r h k = absurd h
alike_trans (beside t l) alone r h k = absurd h
alike_trans (beside t l) (beside u m) alone h k = absurd k
alike_trans (beside t l) (beside u m) (beside v n) h k = (h.0 ∙ k.0, step h.1 k.1)

picked-alike : {d e : Eqn} {l m : List Eqn} → Sides d e → l ∼ m → (o : Other) (p q : Pick) → PickAlike p q
    → PickAlike (picked d l o p) (picked e m o q)
picked-alike s k (some t) p q h = (refl, k)
picked-alike s k none alone alone h = tt
picked-alike s k none alone (beside u m) h = absurd h
picked-alike s k none (beside t l) alone h = absurd h
picked-alike s k none (beside t l) (beside u m) h = (h.0, keep s h.1)

picked_none : (a b : Eqn) (l : List Eqn) (p : Pick)
    → PickAlike (picked a (b ∷ l) none (picked b l none p)) (picked b (a ∷ l) none (picked a l none p))
picked_none a b l alone = tt
picked_none a b l (beside t r) = (refl, swap)

pick-swap : (x : ℕ) (a b : Eqn) (l : List Eqn) → touches x (a ∷ b ∷ l) ≤ 1
    → PickAlike (pick x (a ∷ b ∷ l)) (pick x (b ∷ a ∷ l))
pick-swap x a b l h = go (touched x a) (touched x b)
  where
    go : Touched x a → Touched x b → PickAlike (pick x (a ∷ b ∷ l)) (pick x (b ∷ a ∷ l))
    go (touching t i o s) (touching u j o' s') = absurd (omega (arith, h, i, j))
    go (touching t i o s) (apart j o') = rw o (rw o' (refl, perm_refl Sides_equivalence (b ∷ l)))
    go (apart i o) (touching u j o' s') = rw o (rw o' (refl, perm_refl Sides_equivalence (a ∷ l)))
    go (apart i o) (apart j o') = rw o (rw o' (picked_none a b l (pick x l)))

-- Where a name touches one equation at most, picking does not depend on order and sides.
pub pick-∼ : (x : ℕ) {l m : List Eqn} → l ∼ m → touches x l ≤ 1 → PickAlike (pick x l) (pick x m)
pick-∼ x Perm.none h = tt
pick-∼ x (keep {a = a} {b = b} {l = l} {m = m} s p) h =
    rw (← other_sides x s) (picked-alike s p (other x a) (pick x l) (pick x m) (pick-∼ x p (omega (arith, h))))
pick-∼ x (swap {a = a} {b = b} {l = l}) h = pick-swap x a b l h
pick-∼ x (step {l = l} {m = m} {n = n} p q) h =
    alike_trans (pick x l) (pick x m) (pick x n) (pick-∼ x p h) (pick-∼ x q (omega (arith, h, touches-∼ x p)))

-- What was picked was there, and what has nothing to pick is untouched.
abbrev pub PickIs : ℕ → List Eqn → Pick → Type 0
PickIs x l alone = touches x l ≡ 0
PickIs x l (beside t r) = l ∼ (var x ≐ t) ∷ r

pub pick_is : (x : ℕ) (l : List Eqn) → PickIs x l (pick x l)
pick_is x [] = refl
pick_is x (e ∷ l) = go (touched x e) (pick x l) (pick_is x l)
  where
    go : Touched x e → (p : Pick) → PickIs x l p → PickIs x (e ∷ l) (picked e l (other x e) p)
    go (touching t i o s) p h = rw o (keep s (perm_refl Sides_equivalence l))
    go (apart i o) alone h = rw o (omega (arith, i, h))
    go (apart i o) (beside t r) h = rw o (step (perm_cons Sides_equivalence e h) swap)

abbrev IsName : Term → Type 0
IsName (var x) = Unit {0}
IsName (node a ts) = ⊥

pub var-node : {x b : ℕ} {us : Terms} → ◌≡◌ {A = Term} (var x) (node b us) → ⊥
var-node e = subst IsName e tt

-- Two states are alike: the same numbers, and the same equations left up to order and sides, where a name touches one at most.
pub record Alike (S R : Reader) : Type 0 where
  pub next : S.next ≡ R.next
  pub numbers : S.numbers ≡ R.numbers
  pub unmet : S.unmet ∼ R.unmet
  pub once : (x : ℕ) → touches x S.unmet ≤ 1

pub record ReadAlike {s : Sort} (r q : Reading s) : Type 0 where
  pub shown : r.shown ≡ q.shown
  pub after : Alike r.after q.after

abbrev TiedAlike : (Term → Reader → Reading one) → Type 0
TiedAlike tied = (t : Term) (S R : Reader) → Alike S R → ReadAlike (tied t S) (tied t R)

pub rest-once : {x : ℕ} {t : Term} {l r : List Eqn} → l ∼ (var x ≐ t) ∷ r → ((z : ℕ) → touches z l ≤ 1) → (z : ℕ)
    → touches z r ≤ 1
rest-once p h z = omega (arith, touches-∼ z p, h z)

named-alike : (tied : Term → Reader → Reading one) → TiedAlike tied → (x : ℕ) (S R : Reader) → Alike S R
    → (f : Found) (p q : Pick) → PickAlike p q
    → PickIs x S.unmet p → ReadAlike (named tied x S f p) (named tied x R f q)
named-alike tied h x S R a (known k) p q e i = record { shown = refl; after = a }
named-alike tied h x S R a unknown alone alone e i =
    record {
      shown = ap var a.next;
      after =
          record {
            next = ap suc a.next;
            numbers = ap₂ (λ n l. record { name = x; number = n } ∷ l) a.next a.numbers;
            unmet = a.unmet;
            once = a.once;
          };
    }
named-alike tied h x S R a unknown alone (beside u m) e i = absurd e
named-alike tied h x S R a unknown (beside t l) alone e i = absurd e
named-alike tied h x S R a unknown (beside (var y) l) (beside (var z) m) e i =
    record {
      shown = ap var a.next;
      after =
          record {
            next = ap suc a.next;
            numbers =
                ap₂
                (λ n k. record { name = x; number = n } ∷ record { name = y; number = n } ∷ k)
                a.next
                a.numbers
                ∙ ap (λ v. record { name = x; number = R.next } ∷ record { name = name_of v; number = R.next } ∷ R.numbers) e.0;
            unmet = e.1;
            once = rest-once i a.once;
          };
    }
named-alike tied h x S R a unknown (beside (var y) l) (beside (node b us) m) e i = absurd (var-node e.0)
named-alike tied h x S R a unknown (beside (node b us) l) (beside (var y) m) e i = absurd (var-node (sym e.0))
named-alike tied h x S R a unknown (beside (node b us) l) (beside (node c vs) m) e i =
    rw
    (← e.0)
    (h
    (node b us)
    (record { next = S.next; numbers = S.numbers; unmet = l })
    (record { next = R.next; numbers = R.numbers; unmet = m })
    (record { next = a.next; numbers = a.numbers; unmet = e.1; once = rest-once i a.once }))

read_by-alike : (tied : Term → Reader → Reading one) → TiedAlike tied → {s : Sort} (t : Tree s) (S R : Reader)
    → Alike S R
    → ReadAlike (read_by tied t S) (read_by tied t R)
read_by-alike tied h (var x) S R a =
    rw
    (← ap (find x) a.numbers)
    (named-alike
    tied
    h
    x
    S
    R
    a
    (find x S.numbers)
    (pick x S.unmet)
    (pick x R.unmet)
    (pick-∼ x a.unmet (a.once x))
    (pick_is x S.unmet))
read_by-alike tied h (node b ts) S R a =
    let r = read_by-alike tied h ts S R a in
    record { shown = ap (node b) r.shown; after = r.after }
read_by-alike tied h nil S R a = record { shown = refl; after = a }
read_by-alike tied h (cons t ts) S R a =
    let r = read_by-alike tied h t S R a in
    let q = read_by-alike tied h ts (read_by tied t S).after (read_by tied t R).after r.after in
    record { shown = ap₂ cons r.shown q.shown; after = q.after }

-- A reading does not depend on the order and the sides of the equations.
pub read_alike : (n : ℕ) {s : Sort} (t : Tree s) (S R : Reader) → Alike S R → ReadAlike (read n t S) (read n t R)
read_alike zero t S R a = read_by-alike (λ u Q. record { shown = var 0; after = Q }) (λ u S R a. record { shown = refl; after = a }) t S R a
read_alike (suc n) t S R a = read_by-alike (read n) (λ u S R a. read_alike n u S R a) t S R a
