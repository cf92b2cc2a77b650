-- The number that lets the byte printer call itself does not matter, and the cells left never rise.
use Rattle.std.specs.Prelude.{◌≡◌, refl, List, [], ◌∷◌, get_or}
use Rattle.std.proofs.Common.{sym, ◌∙◌, ap, subst}
use Prim.Native.Nat.{ℕ, zero, suc, ◌-◌, ◌≤◌}
use native.Mathlib.Omega.{arith}
use Rattle.parts.specs.Sides.{Side, name, cell}
use Rattle.model.specs.State.{St, Bond, free, bare, to, bond}
use Rattle.model.specs.Table.{Cell, Table}
use Rattle.model.specs.Sound.{mem_of}
use Rattle.texts.specs.Books.{Agent}
use Rattle.answers.specs.Printing.{Pen, pen, Written, written, numbered, numbered_both, behind, both, name_by}
use Rattle.answers.specs.Printing.{side_by, sides_by, around, cell_met, cell_by}

-- Two ways of writing come to the same, and leave no more cells than there were.
pub record Agree (P : Pen) (v w : Written) : Type 0 where
  pub equal : v ≡ w
  pub fewer : v.after.left ≤ P.left

module _ (ags : List Agent) (T : Table) (s : St) where
  module _ (k : ℕ) (f g : ℕ → Pen → Written) (h : (c : ℕ) (P : Pen) → P.left ≤ k → Agree P (f c P) (g c P)) where
    name_agree : (x : ℕ) (P : Pen) → P.left ≤ k → (v : ℕ) (b : Bond)
        → Agree P (name_by ags T s f x P v b) (name_by ags T s g x P v b)
    unfolding numbered numbered_both
    name_agree x P e (suc j) b = record { equal = refl; fewer = omega arith }
    name_agree x P e zero free = record { equal = refl; fewer = omega arith }
    name_agree x P e zero bare = record { equal = refl; fewer = omega arith }
    name_agree x P e zero (to (name y)) = record { equal = refl; fewer = omega arith }
    name_agree x P e zero (to (cell c)) = h c P e

    pub side-agree : (t : Side) (P : Pen) → P.left ≤ k → Agree P (side_by ags T s f t P) (side_by ags T s g t P)
    side-agree (name x) P e = name_agree x P e (get_or P.numbers x 0) (bond (get_or s.names x 0))
    side-agree (cell c) P e = h c P e

    pub sides-agree : (a b : ℕ) (ts : List Side) (P : Pen) → P.left ≤ k
        → Agree P (sides_by ags T s f a b ts P) (sides_by ags T s g a b ts P)
    sides-agree a b [] P e = record { equal = refl; fewer = omega arith }
    sides-agree a b (t ∷ ts) P e =
        let v = side-agree t P e in
        let w = sides-agree b b ts (side_by ags T s f t P).after (omega (arith, v.fewer, e)) in
        record {
          equal =
              ap (both (behind a (side_by ags T s f t P))) w.equal
              ∙ ap (λ z. both (behind a z) (sides_by ags T s g b b ts z.after)) v.equal;
          fewer = omega (arith, v.fewer, w.fewer);
        }

    pub met-agree : (c : Cell) (P : Pen) (n : ℕ) → P.left ≡ n → n ≤ suc k
        → Agree P (cell_met ags T s f c P n) (cell_met ags T s g c P n)
    met-agree c P zero e b = record { equal = refl; fewer = omega arith }
    met-agree c P (suc n) e b =
        let w = sides-agree 40 44 c.args (pen P.next P.numbers n) (omega (arith, b)) in
        record { equal = ap (around ags T s c.symbol c.args) w.equal; fewer = omega (arith, w.fewer, e) }

  -- Where no cell is left, nothing is written.
  none_agree : (f : ℕ → Pen → Written) (c : Cell) (P : Pen) (n : ℕ) → n ≡ 0
      → cell_met ags T s f c P n ≡ written [] P
  none_agree f c P zero e = refl
  none_agree f c P (suc n) e = absurd (omega (arith, e))

  pub cell_agree : (m n c : ℕ) (P : Pen) → P.left ≤ m → P.left ≤ n
      → Agree P (cell_by ags T s m c P) (cell_by ags T s n c P)
  cell_agree zero zero c P a b = record { equal = refl; fewer = omega arith }
  cell_agree zero (suc n) c P a b =
      record { equal = sym (none_agree (cell_by ags T s n) (mem_of T s c) P P.left (omega (arith, a))); fewer = omega arith }
  cell_agree (suc m) zero c P a b =
      let e = none_agree (cell_by ags T s m) (mem_of T s c) P P.left (omega (arith, b)) in
      record { equal = e; fewer = subst (λ w. w.after.left ≤ P.left) (sym e) (omega arith) }
  cell_agree (suc m) (suc n) c P a b =
      met-agree
      (P.left - 1)
      (cell_by ags T s m)
      (cell_by ags T s n)
      (λ d Q q. cell_agree m n d Q (omega (arith, q, a)) (omega (arith, q, b)))
      (mem_of T s c)
      P
      P.left
      refl
      (omega arith)

  -- So a side leaves no more cells than there were, and what follows may begin anew with the cells left.
  pub side-fewer : (t : Side) (P : Pen) → (side_by ags T s (cell_by ags T s P.left) t P).after.left ≤ P.left
  side-fewer t P = w.fewer
    where
      by : ℕ → Pen → Written
      by = cell_by ags T s P.left

      w : Agree P (side_by ags T s by t P) (side_by ags T s by t P)
      w = side-agree P.left by by (λ c Q q. cell_agree P.left P.left c Q q q) t P (omega arith)

  pub sides_anew : (m g : ℕ) (ts : List Side) (P : Pen) → P.left ≤ m
      → sides_by ags T s (cell_by ags T s m) g g ts P ≡ sides_by ags T s (cell_by ags T s P.left) g g ts P
  sides_anew m g ts P a = w.equal
    where
      w : Agree P (sides_by ags T s (cell_by ags T s m) g g ts P) (sides_by ags T s (cell_by ags T s P.left) g g ts P)
      w =
          sides-agree
          P.left
          (cell_by ags T s m)
          (cell_by ags T s P.left)
          (λ c Q q. cell_agree m P.left c Q (omega (arith, q, a)) q)
          g
          g
          ts
          P
          (omega arith)
