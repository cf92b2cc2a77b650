-- The ties and joins that the words of the names say, as equations of sides.
use Rattle.std.specs.Prelude.{◌≡◌, List, [], ◌∷◌, ◌++◌, ℕ, suc, ◌+◌, ◌<◌, length, get_or, set}
use Rattle.std.proofs.Common.{sym, ◌∙◌, ap, subst, append-nil, append_assoc, arith, length-set, get_or-set_same, get_or-set_other}
use Rattle.std.proofs.Math.Decide.{ℕ_discrete, dec_lt}
use Rattle.calculus.proofs.Beneath.Perm.{perm_refl, perm_sym, perm_append_left, perm_append_right, perm_exchange}
use Rattle.calculus.proofs.Beneath.Perm.{perm_of_eq}
use Rattle.calculus.specs.Terms.{Perm, none, keep, step}
use Rattle.parts.specs.Sides.{Side, name, cell, Pair, ◌:=◌}
use Rattle.parts.specs.Codes.{side-code}
use Rattle.model.specs.State.{bound}
use Rattle.model.specs.Follow.{drop_bond}
use Rattle.model.specs.Reading.{bonds, link, bond_at}
use Rattle.model.specs.Sound.{Mutual}
use Rattle.model.proofs.Beneath.Parts.{PairSides, PairSides_equivalence}

-- The words of the names where two are joined: each tells of the other.
abbrev pub joined : ℕ → ℕ → List ℕ → List ℕ
joined x y l = set (set l x (bound (name y))) y (bound (name x))

infix 40 ◌≃◌
abbrev pub ◌≃◌ : List Pair → List Pair → Type 0
◌≃◌ = Perm PairSides

pub ≃_refl : (l : List Pair) → l ≃ l
≃_refl l = perm_refl PairSides_equivalence l

pub ≃_sym : {l m : List Pair} → l ≃ m → m ≃ l
≃_sym p = perm_sym PairSides_equivalence p

pub ≃_of : {l m : List Pair} → l ≡ m → l ≃ m
≃_of e = perm_of_eq PairSides_equivalence e

pub turn-round : (x y : List Pair) → x ++ y ≃ y ++ x
turn-round x y =
    step
    (≃_of (ap (λ z. x ++ z) (sym (append-nil y))))
    (step (perm_exchange PairSides_equivalence x y []) (≃_of (ap (λ z. y ++ z) (append-nil x))))

-- A name's word changed.
bonds_change : (i n : ℕ) (l : List ℕ) (x v : ℕ) → n ≡ i + x → x < length l
    → bond_at n (get_or l x 0) ++ bonds i (set l x v) ≃ bond_at n v ++ bonds i l
bonds_change i n [] x v e h = absurd (omega arith)
bonds_change i n (w ∷ l) ℕ.zero v e h =
    subst
    (λ m. bond_at m w ++ (bond_at i v ++ bonds (suc i) l) ≃ bond_at m v ++ (bond_at i w ++ bonds (suc i) l))
    (omega arith)
    (perm_exchange PairSides_equivalence (bond_at i w) (bond_at i v) (bonds (suc i) l))
bonds_change i n (w ∷ l) (ℕ.suc x) v e h =
    step
    (perm_exchange PairSides_equivalence (bond_at n (get_or l x 0)) (bond_at i w) (bonds (suc i) (set l x v)))
    (step
    (perm_append_left PairSides_equivalence (bond_at i w) (bonds_change (suc i) n l x v (omega arith) (omega arith)))
    (perm_exchange PairSides_equivalence (bond_at i w) (bond_at n v) (bonds (suc i) l)))

pub bonds-set : (l : List ℕ) (x v : ℕ) → x < length l
    → bond_at x (get_or l x 0) ++ bonds 0 (set l x v) ≃ bond_at x v ++ bonds 0 l
bonds-set l x v h = bonds_change 0 x l x v (omega arith) h

pub at_code : (x : ℕ) (s : Side) → bond_at x (bound s) ≡ link x s
at_code x s = ap (link x) (side-code s)

link-both : (x y : ℕ) → ¬ (x ≡ y) → link x (name y) ++ link y (name x) ≃ (name x := name y) ∷ []
link-both x y n = go (dec_lt x y) (dec_lt y x)
  where
    go : (d : Dec (x < y)) (e : Dec (y < x))
        → elim d as (λ w. List Pair) [ yes h ↦ (name x := name y) ∷ [] | no h ↦ [] ] ++ elim e as (λ w. List Pair) [ yes h ↦ (name y := name x) ∷ [] | no h ↦ [] ]
        ≃ (name x := name y) ∷ []
    go (yes h) (yes k) = absurd (omega arith)
    go (yes h) (no k) = ≃_refl _
    go (no h) (yes k) = keep PairSides.turn none
    go (no h) (no k) = absurd (n (omega arith))

-- A side that is a name below the number of names, or a cell.
abbrev pub Within : ℕ → Side → Type 0
Within n (name y) = y < n
Within n (cell c) = Unit {0}

module _ (l : List ℕ) (x : ℕ) (h : x < length l) where
  -- A tie or a join dropped.
  pub bonds-drop : (s : Side) → Within (length l) s → Mutual l → get_or l x 0 ≡ bound s
      → bonds 0 l ≃ (name x := s) ∷ bonds 0 (drop_bond x s l)
  bonds-drop (cell c) k m e =
      ≃_sym (subst (λ b. b ++ bonds 0 (set l x 0) ≃ bonds 0 l) (ap (bond_at x) e ∙ at_code x (cell c)) (bonds-set l x 0 h))
  bonds-drop (name y) k m e =
      step
      (≃_sym first)
      (step
      (perm_append_left PairSides_equivalence (link x (name y)) (≃_sym second))
      (step
      (≃_of (sym (append_assoc (link x (name y)) (link y (name x)) (bonds 0 (set (set l x 0) y 1)))))
      (perm_append_right PairSides_equivalence (bonds 0 (set (set l x 0) y 1)) (link-both x y both.1))))
    where
      both : (get_or l y 0 ≡ bound (name x)) × ¬ (x ≡ y)
      both = m x y e

      first : link x (name y) ++ bonds 0 (set l x 0) ≃ bonds 0 l
      first = subst (λ b. b ++ bonds 0 (set l x 0) ≃ bonds 0 l) (ap (bond_at x) e ∙ at_code x (name y)) (bonds-set l x 0 h)

      second : link y (name x) ++ bonds 0 (set (set l x 0) y 1) ≃ bonds 0 (set l x 0)
      second =
          subst
          (λ b. b ++ bonds 0 (set (set l x 0) y 1) ≃ bonds 0 (set l x 0))
          (ap (bond_at y) (get_or-set_other l x y 0 0 (λ q. both.1 (sym q)) ∙ both.0) ∙ at_code y (name x))
          (bonds-set (set l x 0) y 1 (omega (arith, length-set l x 0)))

  -- A bare name tied; and two bare names joined.
  pub bonds-tie : (c : ℕ) → get_or l x 0 ≡ 1 → bonds 0 (set l x (bound (cell c))) ≃ (name x := cell c) ∷ bonds 0 l
  bonds-tie c e =
      subst
      (λ b. bonds 0 (set l x (bound (cell c))) ≃ b ++ bonds 0 l)
      (at_code x (cell c))
      (subst (λ b. b ++ bonds 0 (set l x (bound (cell c))) ≃ bond_at x (bound (cell c)) ++ bonds 0 l) (ap (bond_at x) e) (bonds-set l x (bound (cell c)) h))

  pub bonds-join : (y : ℕ) → y < length l → ¬ (x ≡ y) → get_or l x 0 ≡ 1 → get_or l y 0 ≡ 1
      → bonds 0 (joined x y l) ≃ (name x := name y) ∷ bonds 0 l
  bonds-join y k n e f =
      step
      second
      (step
      (perm_append_left PairSides_equivalence (link y (name x)) first)
      (step
      (perm_exchange PairSides_equivalence (link y (name x)) (link x (name y)) (bonds 0 l))
      (step
      (≃_of (sym (append_assoc (link x (name y)) (link y (name x)) (bonds 0 l))))
      (perm_append_right PairSides_equivalence (bonds 0 l) (link-both x y n)))))
    where
      l₁ : List ℕ
      l₁ = set l x (bound (name y))

      first : bonds 0 l₁ ≃ link x (name y) ++ bonds 0 l
      first =
          subst
          (λ b. bonds 0 l₁ ≃ b ++ bonds 0 l)
          (at_code x (name y))
          (subst (λ b. b ++ bonds 0 l₁ ≃ bond_at x (bound (name y)) ++ bonds 0 l) (ap (bond_at x) e) (bonds-set l x (bound (name y)) h))

      second : bonds 0 (set l₁ y (bound (name x))) ≃ link y (name x) ++ bonds 0 l₁
      second =
          subst
          (λ b. bonds 0 (set l₁ y (bound (name x))) ≃ b ++ bonds 0 l₁)
          (at_code y (name x))
          (subst
          (λ b. b ++ bonds 0 (set l₁ y (bound (name x))) ≃ bond_at y (bound (name x)) ++ bonds 0 l₁)
          (ap (bond_at y) (get_or-set_other l x y (bound (name y)) 0 (λ q. n (sym q)) ∙ f))
          (bonds-set l₁ y (bound (name x)) (omega (arith, length-set l x (bound (name y))))))

-- Joins stay mutual.
abbrev pub NoJoin : ℕ → Type 0
NoJoin w = (y : ℕ) → ¬ (w ≡ bound (name y))

pub mutual_set : (l : List ℕ) (x v : ℕ) → x < length l → NoJoin (get_or l x 0) → NoJoin v → Mutual l
    → Mutual (set l x v)
mutual_set l x v h n k m a b e = go (ℕ_discrete a x)
  where
    go : Dec (a ≡ x) → (get_or (set l x v) b 0 ≡ bound (name a)) × ¬ (a ≡ b)
    go (yes p) = absurd (k b (sym (get_or-set_same l x v 0 h) ∙ ap (λ i. get_or (set l x v) i 0) (sym p) ∙ e))
    go (no p) = on (m a b (sym (get_or-set_other l x a v 0 p) ∙ e))
      where
        on : (get_or l b 0 ≡ bound (name a)) × ¬ (a ≡ b) → (get_or (set l x v) b 0 ≡ bound (name a)) × ¬ (a ≡ b)
        on q = (get_or-set_other l x b v 0 (λ r. n a (ap (λ i. get_or l i 0) (sym r) ∙ q.0)) ∙ q.0, q.1)

pub mutual_unjoin : (l : List ℕ) (x y : ℕ) → x < length l → y < length l → get_or l x 0 ≡ bound (name y) → Mutual l
    → Mutual (set (set l x 0) y 1)
mutual_unjoin l x y h k f m a b e = go (ℕ_discrete a x) (ℕ_discrete a y)
  where
    l₁ : List ℕ
    l₁ = set l x 0

    both : (get_or l y 0 ≡ bound (name x)) × ¬ (x ≡ y)
    both = m x y f

    at_y : get_or (set l₁ y 1) y 0 ≡ 1
    at_y = get_or-set_same l₁ y 1 0 (omega (arith, length-set l x 0))

    off : (i : ℕ) → ¬ (i ≡ x) → ¬ (i ≡ y) → get_or (set l₁ y 1) i 0 ≡ get_or l i 0
    off i p q = get_or-set_other l₁ y i 1 0 q ∙ get_or-set_other l x i 0 0 p

    go : Dec (a ≡ x) → Dec (a ≡ y) → (get_or (set l₁ y 1) b 0 ≡ bound (name a)) × ¬ (a ≡ b)
    go (yes p) d =
        absurd (omega (arith, get_or-set_other l₁ y x 1 0 both.1, get_or-set_same l x 0 0 h, ap (λ i. get_or (set l₁ y 1) i 0) p, e))
    go (no p) (yes q) = absurd (omega (arith, at_y, ap (λ i. get_or (set l₁ y 1) i 0) q, e))
    go (no p) (no q) = on (m a b (sym (off a p q) ∙ e))
      where
        on : (get_or l b 0 ≡ bound (name a)) × ¬ (a ≡ b) → (get_or (set l₁ y 1) b 0 ≡ bound (name a)) × ¬ (a ≡ b)
        on r = (
          off b (λ s. q (omega (arith, ap (λ i. get_or l i 0) s, f, r.0))) (λ s. p (omega (arith, ap (λ i. get_or l i 0) s, both.0, r.0))) ∙ r.0,
          r.1,
        )

pub mutual_drop : (l : List ℕ) (x : ℕ) (s : Side) → x < length l → Within (length l) s → get_or l x 0 ≡ bound s
    → Mutual l → Mutual (drop_bond x s l)
mutual_drop l x (name y) h k e m = mutual_unjoin l x y h k e m
mutual_drop l x (cell c) h k e m = mutual_set l x 0 h (λ y p. omega (arith, e)) (λ y p. omega arith) m

pub mutual_join : (l : List ℕ) (x y : ℕ) → x < length l → y < length l → ¬ (x ≡ y) → get_or l x 0 ≡ 1 → get_or l y 0 ≡ 1
    → Mutual l → Mutual (joined x y l)
mutual_join l x y h k n f g m a b e = go (ℕ_discrete a x) (ℕ_discrete a y)
  where
    l₁ : List ℕ
    l₁ = set l x (bound (name y))

    l₂ : List ℕ
    l₂ = set l₁ y (bound (name x))

    at_y : get_or l₂ y 0 ≡ bound (name x)
    at_y = get_or-set_same l₁ y (bound (name x)) 0 (omega (arith, length-set l x (bound (name y))))

    at_x : get_or l₂ x 0 ≡ bound (name y)
    at_x = get_or-set_other l₁ y x (bound (name x)) 0 n ∙ get_or-set_same l x (bound (name y)) 0 h

    off : (i : ℕ) → ¬ (i ≡ x) → ¬ (i ≡ y) → get_or l₂ i 0 ≡ get_or l i 0
    off i p q = get_or-set_other l₁ y i (bound (name x)) 0 q ∙ get_or-set_other l x i (bound (name y)) 0 p

    at : (i j : ℕ) → i ≡ j → get_or l₂ i 0 ≡ get_or l₂ j 0
    at i j p = ap (λ o. get_or l₂ o 0) p

    go : Dec (a ≡ x) → Dec (a ≡ y) → (get_or l₂ b 0 ≡ bound (name a)) × ¬ (a ≡ b)
    go (yes p) d =
        let q : b ≡ y = omega (arith, at a x p, at_x, e) in (at b y q ∙ at_y ∙ ap (λ o. bound (name o)) (sym p), λ r. n (sym p ∙ r ∙ q))
    go (no p) (yes q) =
        let s : b ≡ x = omega (arith, at a y q, at_y, e) in (at b x s ∙ at_x ∙ ap (λ o. bound (name o)) (sym q), λ r. n (sym s ∙ sym r ∙ q))
    go (no p) (no q) = on (m a b (sym (off a p q) ∙ e))
      where
        on : (get_or l b 0 ≡ bound (name a)) × ¬ (a ≡ b) → (get_or l₂ b 0 ≡ bound (name a)) × ¬ (a ≡ b)
        on r = (
          off b (λ s. omega (arith, ap (λ i. get_or l i 0) s, f, r.0)) (λ s. omega (arith, ap (λ i. get_or l i 0) s, g, r.0)) ∙ r.0,
          r.1,
        )
