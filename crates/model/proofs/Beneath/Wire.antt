-- Following a side, and fastening two ends, on the pool.
use Rattle.std.specs.Prelude.{◌≡◌, refl, List, [], ◌∷◌, ◌++◌, ◌⊎◌, ℕ, ◌+◌, ◌*◌, ◌≤◌, ◌<◌, min, length, get_or, set}
use Rattle.std.proofs.Common.{sym, ◌∙◌, ap, append_assoc, inl, inr, arith, length-set, get_or-set_same, get_or-set_other}
use Rattle.std.proofs.Math.Decide.{ℕ_discrete}
use Rattle.calculus.specs.Calculus.{Book, Step, communication}
use Rattle.calculus.specs.Descent.{Steps, done, more}
use Rattle.calculus.proofs.Beneath.Count.{δ_same, δ-cases, sum-eqs, sum-eqs-append}
use Rattle.calculus.proofs.Beneath.Perm.{perm_append_left, perm_append_right, perm_exchange}
use Rattle.calculus.specs.Terms.{δ, count, keep, swap, step, eqs_names}
use Rattle.parts.specs.Sides.{Side, name, cell, Pair, ◌:=◌, side}
use Rattle.parts.specs.Codes.{code-side}
use Rattle.model.specs.State.{used, bound, bond}
use Rattle.model.specs.Table.{Cell}
use Rattle.model.specs.Follow.{Followed, drop_bond, follow_by, follow, hops, hop, Coms}
use Rattle.model.specs.Reading.{bonds, pool_of}
use Rattle.model.specs.Sound.{Mutual}
use Rattle.model.proofs.Beneath.Bonds.{◌≃◌, ≃_refl, ≃_of, Within, bonds-drop, mutual_drop}
use Rattle.model.proofs.Beneath.Facts.{used-set}
use Rattle.model.proofs.Beneath.Parts.{PairSides, PairSides_equivalence, Part, part}
use Rattle.model.proofs.Beneath.Pool.{communicate, Good, conf, in_range, Named, named, Met}

pub pool-bonds : (W K l : List Pair) (ns ns' : List ℕ) → bonds 0 ns ≃ l ++ bonds 0 ns'
    → pool_of W K ns ≃ l ++ pool_of W K ns'
pool-bonds W K l ns ns' e =
    step
    (perm_append_left PairSides_equivalence W (step (perm_append_right PairSides_equivalence K e) (≃_of (append_assoc l (bonds 0 ns') K))))
    (perm_exchange PairSides_equivalence W l (bonds 0 ns' ++ K))

-- An end that is a name is bare.
abbrev pub Ready : List ℕ → Side → Type 0
Ready l (name y) = get_or l y 0 ≡ 1
Ready l (cell c) = Unit {0}

abbrev pub is_cell : Side → ℕ
is_cell (name x) = 0
is_cell (cell c) = 1

-- A dropped tie or join frees its name, and leaves the others in use.
drop_use : (l : List ℕ) (x : ℕ) (s : Side) → x < length l → Within (length l) s → get_or l x 0 ≡ bound s → Mutual l
    → (y : ℕ) → 2 * min 1 (get_or l y 0) ≡ δ y x + δ y x + 2 * min 1 (get_or (drop_bond x s l) y 0)
drop_use l x (cell c) h k e m y = go (δ-cases y x)
  where
    go : ((y ≡ x) × (δ y x ≡ 1)) ⊎ ((¬ (y ≡ x)) × (δ y x ≡ 0))
        → 2 * min 1 (get_or l y 0) ≡ δ y x + δ y x + 2 * min 1 (get_or (set l x 0) y 0)
    go (inl p) = omega (arith, p.1, e, ap (λ i. get_or l i 0) p.0, ap (λ i. get_or (set l x 0) i 0) p.0, get_or-set_same l x 0 0 h)
    go (inr p) = omega (arith, p.1, get_or-set_other l x y 0 0 p.0)
drop_use l x (name z) h k e m y = go (δ-cases y x) (ℕ_discrete y z) (m x z e)
  where
    l₁ : List ℕ
    l₁ = set l x 0

    go : ((y ≡ x) × (δ y x ≡ 1)) ⊎ ((¬ (y ≡ x)) × (δ y x ≡ 0)) → Dec (y ≡ z)
        → (get_or l z 0 ≡ bound (name x)) × ¬ (x ≡ z)
        → 2 * min 1 (get_or l y 0) ≡ δ y x + δ y x + 2 * min 1 (get_or (set l₁ z 1) y 0)
    go (inl p) d b =
        omega (
          arith,
          p.1,
          e,
          ap (λ i. get_or l i 0) p.0,
          ap (λ i. get_or (set l₁ z 1) i 0) p.0,
          get_or-set_other l₁ z x 1 0 b.1,
          get_or-set_same l x 0 0 h,
        )
    go (inr p) (yes q) b =
        omega (
          arith,
          p.1,
          b.0,
          ap (λ i. get_or l i 0) q,
          ap (λ i. get_or (set l₁ z 1) i 0) q,
          get_or-set_same l₁ z 1 0 (omega (arith, length-set l x 0)),
        )
    go (inr p) (no q) b = omega (arith, p.1, get_or-set_other l₁ z y 1 0 q, get_or-set_other l x y 0 0 p.0)

drop-length : (l : List ℕ) (x : ℕ) (s : Side) → length (drop_bond x s l) ≡ length l
drop-length l x (cell c) = length-set l x 0
drop-length l x (name y) = length-set (set l x 0) y 1 ∙ length-set l x 0

drop-ready : (l : List ℕ) (x : ℕ) (s : Side) → x < length l → Within (length l) s → Ready (drop_bond x s l) s
drop-ready l x (cell c) h k = tt
drop-ready l x (name y) h k = get_or-set_same (set l x 0) y 1 0 (omega (arith, length-set l x 0))

drop-used : (l : List ℕ) (x : ℕ) (s : Side) → x < length l → Within (length l) s → get_or l x 0 ≡ bound s → Mutual l
    → used (drop_bond x s l) + 1 ≡ used l
drop-used l x (cell c) h k e m = omega (arith, used-set l x 0 h, e)
drop-used l x (name y) h k e m =
    omega (
      arith,
      used-set l x 0 h,
      e,
      used-set (set l x 0) y 1 (omega (arith, k, length-set l x 0)),
      get_or-set_other l x y 0 0 (λ p. (m x y e).1 (sym p)),
      (m x y e).0,
    )

pub within : (l : List ℕ) (x : ℕ) (s : Side) → get_or l x 0 ≡ bound s → Mutual l → Within (length l) s
within l x (cell c) e m = tt
within l x (name y) e m = in_range l y (omega (arith, (m x y e).0))

module _ {mem : ℕ → Cell} {live : ℕ → ℕ} {face : List Side} where
  -- A name on a side of an equation of the pool is in use.
  pub in_use : {P : List Pair} {ns : List ℕ} {x : ℕ} {t : Side} {R : List Pair} → Good mem live face P ns
      → P ≃ (name x := t) ∷ R → 0 < get_or ns x 0
  in_use {P} {ns} {x} {t} {R} g e = go (part ((name x := t) ∷ []) e g.pool_reads)
    where
      go : Part mem ((name x := t) ∷ []) R g.eqs g.c₁ → 0 < get_or ns x 0
      go p = on (named p.it)
        where
          on : Named mem x t [] p.eqs p.its → 0 < get_or ns x 0
          on k =
              omega (
                arith,
                g.twice x,
                sum-eqs (δ x) p.order,
                sum-eqs-append (δ x) p.eqs p.others,
                ap (λ l. count x (eqs_names l)) k.eqs,
                δ_same x,
              )

  -- What comes of following a side: no change, or a Communication.
  pub record Follows (B : Book) (range n : ℕ) {P : List Pair} {ns : List ℕ} (g : Good mem live face P ns) (W K : List Pair) (s t : Side) (f : Followed) : Type 0 where
    pub P' : List Pair
    pub order : P' ≃ (f.end := t) ∷ pool_of W K f.names
    pub good : Good mem live face P' f.names
    pub coms : ℕ
    pub exact : coms ≡ hops s ns
    pub uses : used f.names + coms ≡ used ns
    pub paid : is_cell f.end ≤ is_cell s + coms
    pub way : Steps (Step B) (conf range g n) (Coms coms) (conf range good n)
    pub joins : Mutual f.names
    pub size : length f.names ≡ length ns
    pub ready : Ready f.names f.end

  pub follows : (B : Book) (range n : ℕ) {P : List Pair} {ns : List ℕ} (g : Good mem live face P ns) (W K : List Pair) (s t : Side)
      → P ≃ (s := t) ∷ pool_of W K ns → Mutual ns → Follows B range n g W K s t (follow s ns)
  follows B range n {P} g W K (cell c) t e m =
      record { P' = P; order = e; good = g; coms = 0; exact = refl; uses = omega arith; paid = omega arith; way = done; joins = m; size = refl; ready = tt }
  follows B range n {P} {ns} g W K (name x) t e m = go (get_or ns x 0) refl
    where
      here : x < length ns
      here = in_range ns x (in_use g e)

      go : (v : ℕ) → get_or ns x 0 ≡ v → Follows B range n g W K (name x) t (follow_by x ns (bond v))
      go ℕ.zero p = absurd (omega (arith, in_use g e))
      go (ℕ.suc ℕ.zero) p =
          record { P' = P; order = e; good = g; coms = 0; exact = ap (λ w. hop (bond w)) (sym p); uses = omega arith; paid = omega arith; way = done; joins = m; size = refl; ready = p }
      go (ℕ.suc (ℕ.suc w)) p = on (side w) (omega (arith, code-side w))
        where
          on : (s : Side) → get_or ns x 0 ≡ bound s
              → Follows B range n g W K (name x) t (record { end = s; names = drop_bond x s ns })
          on s q = last (communicate g range n (drop_bond x s ns) order (drop_use ns x s here (within ns x s q m) q m))
            where
              order : P ≃ (name x := s) ∷ (name x := t) ∷ pool_of W K (drop_bond x s ns)
              order =
                  step
                  e
                  (step
                  (keep PairSides.same (pool-bonds W K ((name x := s) ∷ []) ns (drop_bond x s ns) (bonds-drop ns x here s (within ns x s q m) m q)))
                  swap)

              last : Met g range n ((s := t) ∷ pool_of W K (drop_bond x s ns)) (drop_bond x s ns)
                  → Follows B range n g W K (name x) t (record { end = s; names = drop_bond x s ns })
              last k =
                  record {
                    P' = (s := t) ∷ pool_of W K (drop_bond x s ns);
                    order = ≃_refl _;
                    good = k.good;
                    coms = 1;
                    exact = ap (λ w. hop (bond w)) (sym p);
                    uses = drop-used ns x s here (within ns x s q m) q m;
                    paid = small s;
                    way = more (communication k.by) done;
                    joins = mutual_drop ns x s here (within ns x s q m) q m;
                    size = drop-length ns x s;
                    ready = drop-ready ns x s here (within ns x s q m);
                  }
                where
                  small : (s : Side) → is_cell s ≤ 0 + 1
                  small (name y) = omega arith
                  small (cell c) = omega arith
