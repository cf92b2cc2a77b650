-- How often a name occurs in what is read, counted over the whole state.
use Rattle.std.specs.Prelude.{◌≡◌, refl, List, [], ◌∷◌, ◌++◌, map, ℕ, ◌+◌, ◌*◌, ◌≤◌, ◌<◌, drop, set, length, get_or, take}
use Rattle.std.proofs.Common.{sym, ◌∙◌, ap, arith, get_or-set_same, get_or-set_other}
use Rattle.std.proofs.Math.ListN.{get_or-eq_default}
use Rattle.calculus.proofs.Beneath.Count.{δ_same, δ_other, sum-append}
use Rattle.calculus.specs.Terms.{none, keep, swap, step, names, eqs_names, δ, count, sum, Terms, Eqn}
use Rattle.parts.specs.Limits.{arity_max, cells_max}
use Rattle.parts.specs.Sides.{side, ◌:=◌, Pair, name, cell, Side}
use Rattle.parts.specs.Codes.{code-side}
use Rattle.model.specs.State.{St, listed, bound, bond}
use Rattle.model.specs.Table.{Table, Cell}
use Rattle.model.specs.Follow.{drop_bond, hop, hops}
use Rattle.model.specs.Reading.{bonds, by_name, ReadsAll, by_cell, Reads, Whole}
use Rattle.model.specs.Sound.{Mutual, sides, pool, live, width, mem_of}
use Rattle.model.specs.Test.{sides_of, is_name, times, occurrences}
use Rattle.model.specs.Walk.{below}
use Rattle.model.proofs.Beneath.Bonds.{mutual_drop, ◌≃◌, bonds-drop}
use Rattle.model.proofs.Beneath.Ended.{unbound, touched}
use Rattle.model.proofs.Beneath.Parts.{PairSides}
use Rattle.model.proofs.Beneath.Pool.{in_range}
use Rattle.model.proofs.Beneath.Search.{flat-names, flat}
use Rattle.model.proofs.Beneath.Sums.{below-zero, below_ext, below_one, below_plus}
use Rattle.model.proofs.Beneath.Wire.{within}

pub sides-append : (x : ℕ) (l m : List Pair)
    → times x (sides_of (l ++ m)) ≡ times x (sides_of l) + times x (sides_of m)
sides-append x [] m = omega arith
sides-append x ((a := b) ∷ l) m = omega (arith, sides-append x l m)

-- Names are on the sides that are looked at first, and in the arguments of the cells met.
reads_times : {mem : ℕ → Cell} {ss : List Side} {ts : Terms} {cs : List ℕ} (x : ℕ) → Reads mem ss ts cs
    → count x (names ts) ≡ times x ss + sum (λ c. times x (mem c).args) cs
reads_times x Reads.none = refl
reads_times x (by_name r) = omega (arith, reads_times x r)
reads_times {mem} x (by_cell {c = c} {k = k} {us = us} {ts = ts} {ds = ds} {cs = cs} e q r) =
    omega (
      arith,
      reads_times x q,
      reads_times x r,
      ap (λ w. times x w.args) e,
      sum-append (δ x) (names us) (names ts),
      sum-append (λ c. times x (mem c).args) ds cs,
    )

all_times : {mem : ℕ → Cell} {l : List Pair} {m : List Eqn} {cs : List ℕ} (x : ℕ) → ReadsAll mem l m cs
    → count x (eqs_names m) ≡ times x (sides_of l) + sum (λ c. times x (mem c).args) cs
all_times {m = m} x r = sym (flat-names x m) ∙ reads_times x (flat r)

-- A sum over the members of a list, as one over the numbers below n.
sum_below : (n : ℕ) (f : ℕ → ℕ) (l : List ℕ) → ((i : ℕ) → n ≤ i → f i ≡ 0) → sum f l ≡ below n (λ i. count i l * f i)
sum_below n f [] z = sym (below-zero n (λ i. 0 * f i) (λ i h. omega arith))
sum_below n f (c ∷ l) z =
    omega (
      arith,
      sum_below n f l z,
      below_plus n (λ i. δ i c * f i) (λ i. count i l * f i) (λ i. (δ i c + count i l) * f i) (λ i. omega arith),
      below_one n c f z,
    )

-- The ties and joins of mutual names: a name is an end of one if its word says so.
untouched_sides : (x : ℕ) (l : List Pair) → touched x l ≡ 0 → times x (sides_of l) ≡ 0
untouched_sides x [] h = refl
untouched_sides x ((a := b) ∷ l) h = omega (arith, untouched_sides x l (omega arith))

pub sides-≃ : (x : ℕ) {l m : List Pair} → l ≃ m → times x (sides_of l) ≡ times x (sides_of m)
sides-≃ x none = refl
sides-≃ x (keep (PairSides.same {p = a := b}) p) = omega (arith, sides-≃ x p)
sides-≃ x (keep (PairSides.turn {a = a} {b = b}) p) = omega (arith, sides-≃ x p)
sides-≃ x (swap {a = a := b} {b = c := d}) = omega arith
sides-≃ x (step p q) = sides-≃ x p ∙ sides-≃ x q

bonds-times : (l : List ℕ) (x : ℕ) → Mutual l → times x (sides_of (bonds 0 l)) ≡ hops (name x) l
bonds-times l x m = go (get_or l x 0) refl
  where
    go : (v : ℕ) → get_or l x 0 ≡ v → times x (sides_of (bonds 0 l)) ≡ hop (bond v)
    go ℕ.zero e = untouched_sides x (bonds 0 l) (unbound l x m (omega (arith, e)))
    go (ℕ.suc ℕ.zero) e = untouched_sides x (bonds 0 l) (unbound l x m (omega (arith, e)))
    go (ℕ.suc (ℕ.suc w)) e = on (side w) (omega (arith, e, code-side w))
      where
        here : x < length l
        here = in_range l x (omega (arith, e))

        off : (t : Side) → get_or l x 0 ≡ bound t → (get_or (drop_bond x t l) x 0 ≡ 0) × (is_name x t ≡ 0)
        off (cell c) q = (get_or-set_same l x 0 0 here, refl)
        off (name y) q = (
          get_or-set_other (set l x 0) y x 1 0 (m x y q).1 ∙ get_or-set_same l x 0 0 here,
          δ_other {x = x} {y = y} (m x y q).1,
        )

        on : (t : Side) → get_or l x 0 ≡ bound t → times x (sides_of (bonds 0 l)) ≡ 1
        on t q =
            omega (
              arith,
              sides-≃ x (bonds-drop l x here t (within l x t q m) m q),
              δ_same x,
              (off t q).1,
              untouched_sides
                  x
                  (bonds 0 (drop_bond x t l))
                  (unbound (drop_bond x t l) x (mutual_drop l x t here (within l x t q m) q m) (omega (arith, (off t q).0))),
            )

gather : (a b f p c d e n w r k l j : ℕ) → a ≡ f + c → b ≡ p + d → e ≡ c + d → e ≡ n → p ≡ w + r → r ≡ l + k → l ≡ j
    → a + b ≡ f + (w + (k + (j + n)))
gather a b f p c d e n w r k l j q₁ q₂ q₃ q₄ q₅ q₆ q₇ = omega (arith, q₁, q₂, q₃, q₄, q₅, q₆, q₇)

module _ (T : Table) (s : St) (h : Whole (mem_of T s) (sides s.face) (pool s)) (once : (c : ℕ) → count c h.c₀ + count c h.c₁ ≡ live s.symbols c) (m : Mutual s.names) (size : length s.symbols ≡ cells_max) where
  -- A cell not in use has no arguments.
  idle : (x c : ℕ) → get_or s.symbols c 0 ≡ 0 → times x (mem_of T s c).args ≡ 0
  idle x c e = ap (λ v. times x (map side (take (width T.arities v) (drop (arity_max * c) s.arguments)))) e

  cells-times : (x : ℕ)
      → sum (λ c. times x (mem_of T s c).args) (h.c₀ ++ h.c₁) ≡ below cells_max (λ c. times x (mem_of T s c).args)
  cells-times x =
      sum_below cells_max (λ c. times x (mem_of T s c).args) (h.c₀ ++ h.c₁) (λ i o. idle x i (get_or-eq_default s.symbols 0 {n = i} (omega (arith, size))))
      ∙ below_ext cells_max (λ c. count c (h.c₀ ++ h.c₁) * times x (mem_of T s c).args) (λ c. times x (mem_of T s c).args) (λ c. on c (get_or s.symbols c 0) refl)
    where
      on : (c v : ℕ) → get_or s.symbols c 0 ≡ v
          → count c (h.c₀ ++ h.c₁) * times x (mem_of T s c).args ≡ times x (mem_of T s c).args
      on c ℕ.zero e = ap (λ n. count c (h.c₀ ++ h.c₁) * n) (idle x c e) ∙ omega arith ∙ sym (idle x c e)
      on c (ℕ.suc v) e =
          ap (λ n. n * times x (mem_of T s c).args) (let q : count c (h.c₀ ++ h.c₁) ≡ 1 = omega (arith, sum-append (δ c) h.c₀ h.c₁, once c, e) in q) ∙ omega arith

  pub counted : (x : ℕ) → count x (names h.terms) + count x (eqs_names h.eqs) ≡ occurrences T s x
  counted x =
      gather _ _ _ _ _ _ _ _ _ _ _ _ _
      (reads_times x h.face_reads)
      (all_times x h.pool_reads)
      (sum-append (λ c. times x (mem_of T s c).args) h.c₀ h.c₁)
      (cells-times x)
      (sides-append x (listed s.waiting) (bonds 0 s.names ++ listed s.stuck))
      (sides-append x (bonds 0 s.names) (listed s.stuck))
      (bonds-times s.names x m)
