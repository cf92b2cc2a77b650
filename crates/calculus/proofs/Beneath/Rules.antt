-- Ways to show that a rule is proper, and a book of rules sound.
use Rattle.std.specs.Prelude.{◌≡◌, refl, List, [], ◌∷◌, ◌++◌, map, ℕ, ◌+◌, ◌≤◌, ◌<◌, get_or}
use Rattle.std.proofs.Common.{sym, ◌∙◌, ap, ap₂, inl, inr, arith}
use Rattle.std.proofs.Math.Decide.{ℕ_discrete}
use Rattle.calculus.specs.Terms.{var, Eqn, ◌≐◌, δ, count, Reordered, none, keep, step, Sides, if_eq}
use Rattle.calculus.specs.Calculus.{Rule, TwoSided, Proper, SamePair, Sound}
use Rattle.calculus.specs.Rules.{listed, distinct, Level, exchange_lists, Plain, one_sided, both_sided}
use Rattle.calculus.proofs.Beneath.Perm.{Ins, here, there, perm_ins, Path_equivalence}
use Rattle.calculus.proofs.Beneath.Count.{if_yes, if_no, δ_same, δ-cases, sum-append, sum_perm}
use Rattle.calculus.proofs.Beneath.Sub.{Sides_equivalence, sides_inv, var_inj, back}
use Rattle.calculus.proofs.Beneath.Ended.{All, All-∼}

-- A list of proper rules, no two for one pair of symbols, is a sound book.
abbrev pub Apart : List Rule → Type 0
Apart [] = Unit {0}
Apart (r ∷ l) = All (λ s. SamePair r s → ⊥) l × Apart l

listed_all : (P : Rule → Type 0) (l : List Rule) → All P l → (i : ℕ) (r : Rule) → listed l i r → P r
listed_all P [] h i r b = absurd b
listed_all P (s ∷ l) h ℕ.zero r b = rw b h.0
listed_all P (s ∷ l) h (ℕ.suc i) r b = listed_all P l h.1 i r b

pub listed-sound : (l : List Rule) → All Proper l → Apart l → Sound (listed l)
listed-sound l h a = record { proper = listed_all Proper l h; single = single l a }
  where
    turn : (r s : Rule) → SamePair r s → SamePair s r
    turn r s (inl e) = inl (sym e.0, sym e.1)
    turn r s (inr e) = inr (sym e.1, sym e.0)

    single : (l : List Rule) → Apart l → (i j : ℕ) (r s : Rule) → listed l i r → listed l j s → SamePair r s
        → (i ≡ j) × (r ≡ s)
    single [] a i j r s b b' p = absurd b
    single (t ∷ l) a ℕ.zero ℕ.zero r s b b' p = (refl, b ∙ sym b')
    single (t ∷ l) a ℕ.zero (ℕ.suc j) r s b b' p =
        absurd (listed_all (λ q. SamePair t q → ⊥) l a.0 j s b' (rw b at p))
    single (t ∷ l) a (ℕ.suc i) ℕ.zero r s b b' p =
        absurd (listed_all (λ q. SamePair t q → ⊥) l a.0 i r b (rw b' at (turn r s p)))
    single (t ∷ l) a (ℕ.suc i) (ℕ.suc j) r s b b' p =
        let k = single l a.1 i j r s b b' p in (ap ℕ.suc k.0, k.1)

pub distinct-different : (l : List ℕ) → distinct l → (x : ℕ) → count x l ≤ 1
distinct-different [] h x = omega arith
distinct-different (y ∷ l) h x = elim (δ-cases x y) [
  | inl e ↦ omega (arith, e.1, ap (λ z. count z l) e.0, h.0)
  | inr e ↦ omega (arith, e.1, distinct-different l h.1 x)
]

-- A member can be taken out.
pub record Pulled (x : ℕ) (m : List ℕ) : Type 0 where
  pub rest : List ℕ
  pub out : Ins x rest m

pub pull : (x : ℕ) (m : List ℕ) → 0 < count x m → Pulled x m
pull x [] k = absurd (omega arith)
pull x (y ∷ m) k = elim (δ-cases x y) [
  | inl e ↦ rw e.0 (record { rest = m; out = here })
  | inr e ↦ let q = pull x m (omega (arith, e.1)) in record { rest = y ∷ q.rest; out = there q.out }
]

-- Lists with the same occurrences of each name are one up to order.
pub reordered_of_counts : (l m : List ℕ) → ((x : ℕ) → count x l ≡ count x m) → Reordered l m
reordered_of_counts [] [] h = none
reordered_of_counts [] (y ∷ m) h = absurd (omega (arith, h y, δ_same y))
reordered_of_counts (x ∷ l) m h =
    let q = pull x m (omega (arith, h x, δ_same x)) in
    let p = perm_ins Path_equivalence q.out in
    step (keep refl (reordered_of_counts l q.rest (λ y. omega (arith, h y, sum_perm (δ y) p)))) p

map_ext : (f g : ℕ → ℕ) (l : List ℕ) → ((z : ℕ) → 0 < count z l → f z ≡ g z) → map f l ≡ map g l
map_ext f g [] h = refl
map_ext f g (x ∷ l) h = ap₂ ◌∷◌ (h x (omega (arith, δ_same x))) (map_ext f g l (λ z k. h z (omega arith)))

exchanged : (xs ys : List ℕ) → Level xs ys → ((z : ℕ) → count z xs + count z ys ≤ 1)
    → (map (exchange_lists xs ys) xs ≡ ys) × (map (exchange_lists xs ys) ys ≡ xs)
exchanged [] [] h d = (refl, refl)
exchanged [] (y ∷ ys) h d = absurd h
exchanged (x ∷ xs) [] h d = absurd h
exchanged (x ∷ xs) (y ∷ ys) h d =
    let i = exchanged xs ys h (λ z. omega (arith, d z)) in (
      ap₂
          ◌∷◌
          (if_yes y (if_eq x y x (rest x)) refl)
          (map_ext (exchange_lists (x ∷ xs) (y ∷ ys)) rest xs (λ z k. past z (omega arith)) ∙ i.0),
      ap₂
          ◌∷◌
          (if_no y (if_eq y y x (rest y)) (λ e. omega (arith, d y, δ_same y, ap (δ y) e)) ∙ if_yes x (rest y) refl)
          (map_ext (exchange_lists (x ∷ xs) (y ∷ ys)) rest ys (λ z k. past z (omega arith)) ∙ i.1),
    )
  where
    rest : ℕ → ℕ
    rest = exchange_lists xs ys

    past : (z : ℕ) → 0 < count z xs + count z ys → exchange_lists (x ∷ xs) (y ∷ ys) z ≡ rest z
    past z k =
        if_no y (if_eq z y x (rest z)) (λ e. omega (arith, d z, δ_same z, ap (δ z) e))
        ∙ if_no x (rest z) (λ e. omega (arith, d z, δ_same z, ap (δ z) e))

-- Document 01's condition makes a rule read the same from both sides.
pub plain-two_sided : (r : Rule) → ((x : ℕ) → count x (r.xs ++ (r.ys ++ r.new)) ≤ 1) → Plain r → TwoSided r
plain-two_sided r d p =
    record {
      by = exchange_lists r.xs r.ys;
      left = both.0;
      right = both.1;
      new = λ z k. absurd (omega (arith, k, ap (count z) p.none_new));
      apart = λ y z j k e. absurd (omega (arith, j, ap (count y) p.none_new));
      body = p.unchanged;
    }
  where
    both : (map (exchange_lists r.xs r.ys) r.xs ≡ r.ys)
        × (map (exchange_lists r.xs r.ys) r.ys ≡ r.xs)
    both =
        exchanged
        r.xs
        r.ys
        p.level
        (λ z. omega (arith, d z, sum-append (δ z) r.xs (r.ys ++ r.new), sum-append (δ z) r.ys r.new))

-- From the other side a = e reads d = b, and this is none of the three equations.
pub one_sided_not_proper : Proper one_sided → ⊥
one_sided_not_proper p = (All-∼ closed (back w.body) others).0 (rw (at 0 w.left, at 1 w.right) Sides.same)
  where
    w : TwoSided one_sided
    w = p.two_sided refl

    at : (k : ℕ) {l m : List ℕ} → l ≡ m → get_or l k 0 ≡ get_or m k 0
    at k e = ap (λ l. get_or l k 0) e

    Unlike : Eqn → Type 0
    Unlike e = Sides e (var 3 ≐ var 1) → ⊥

    closed : (d e : Eqn) → Sides d e → Unlike d → Unlike e
    closed d e s h k = h (Sides_equivalence.join s k)

    unlike : (x y : ℕ) → (x ≡ 3 → y ≡ 1 → ⊥) → (x ≡ 1 → y ≡ 3 → ⊥) → Unlike (var x ≐ var y)
    unlike x y m n s = elim (sides_inv s) [
      | inl h ↦ m (var_inj h.0) (var_inj h.1)
      | inr h ↦ n (var_inj h.0) (var_inj h.1)
    ]

    others : All Unlike one_sided.body
    others = (
      unlike 0 4 (λ e f. omega arith) (λ e f. omega arith),
      (
        unlike 1 5 (λ e f. omega arith) (λ e f. omega arith),
        (unlike 2 3 (λ e f. omega arith) (λ e f. omega arith), tt),
      ),
    )

pub both_sided_is_proper : Proper both_sided
unfolding δ if_eq ℕ_discrete
both_sided_is_proper =
    record {
      different = different;
      linear = reordered_of_counts (0 ∷ 2 ∷ 1 ∷ 3 ∷ []) (0 ∷ 1 ∷ 2 ∷ 3 ∷ []) (λ x. omega arith);
      two_sided = λ e. plain-two_sided both_sided different plain;
    }
  where
    different : (x : ℕ) → count x (0 ∷ 1 ∷ 2 ∷ 3 ∷ []) ≤ 1
    different = distinct-different (0 ∷ 1 ∷ 2 ∷ 3 ∷ []) (refl, (refl, (refl, (refl, tt))))

    plain : Plain both_sided
    plain = record { level = tt; none_new = refl; unchanged = keep Sides.turn (keep Sides.turn none) }
