-- A pass that adds up, and how often a name stands in a state by such passes.
use Rattle.std.specs.Prelude.{◌≡◌, refl, Bool, true, false, List, ℕ, suc, ◌+◌, ◌*◌, ◌<◌, ◌≤◌, leb, eqb, get_or}
use Rattle.std.specs.Int.{from_bool}
use Rattle.std.proofs.Common.{ap, ap₂, sym, ◌∙◌, arith, add-one, cond, mul-add, eqb-true, le-leb}
use borrow.Author.Tests.{eqb-false}
use Rattle.calculus.proofs.Beneath.Count.{δ_same, δ_other}
use Rattle.parts.specs.Limits.{arity_max, cells_max}
use Rattle.parts.specs.Sides.{Side, name, cell, side, code}
use Rattle.parts.specs.Codes.{code-side}
use Rattle.model.specs.State.{St, bond}
use Rattle.model.specs.Table.{Table}
use Rattle.model.specs.Sound.{width}
use Rattle.model.specs.Follow.{hop}
use Rattle.model.specs.Test.{is_name}
use Rattle.sound.specs.Lent.{under}
use Rattle.name_counts.specs.Totals.{total, Found, mark, inside, bound_once, occurring}

-- found is the sum of f over the numbers below i, each at most m, where the pass goes up to n.
pub record Summing (f : ℕ → ℕ) (n m found i : ℕ) : Type 0 where
  pub high : i ≤ n
  pub few : found ≤ m * i
  pub so_far : found ≡ total i f

pub sum_start : (f : ℕ → ℕ) (n m : ℕ) → Summing f n m 0 0
unfolding total
sum_start f n m = record { high = omega arith; few = omega arith; so_far = refl }

total-next : (f : ℕ → ℕ) (i : ℕ) → total (i + 1) f ≡ total i f + f i
unfolding total
total-next f i = rw add-one

pub sum_more : {f : ℕ → ℕ} {n m found i : ℕ} (k : ℕ) → Summing f n m found i → i < n → Found k (f i) m → Summing f n m (found + k) (i + 1)
sum_more {f} {n} {m} {found} {i} k s h e =
    record {
      high = omega arith;
      few = omega (arith, mul-add m i 1, s.few, e.few);
      so_far = ap₂ ◌+◌ s.so_far e.is ∙ sym (total-next f i);
    }

-- A place that adds nothing.
pub sum_skip : {f : ℕ → ℕ} {n m found i : ℕ} → Summing f n m found i → i < n → Found 0 (f i) m → Summing f n m found (i + 1)
sum_skip {f} {n} {m} {found} {i} s h e =
    record {
      high = omega arith;
      few = omega (arith, mul-add m i 1, s.few);
      so_far = omega (arith, s.so_far, total-next f i, e.is);
    }

pub sum_end : {f : ℕ → ℕ} {n m found i : ℕ} → Summing f n m found i → n ≤ i → Found found (total n f) (m * n)
sum_end {f} {n} {m} {found} {i} s h =
    let e : i ≡ n = omega (arith, s.high) in
    record { is = s.so_far ∙ ap (λ k. total k f) e; few = rw e at s.few }

-- Where each is at most one.
pub ones_end : {f : ℕ → ℕ} {n found i : ℕ} → Summing f n 1 found i → n ≤ i → Found found (total n f) n
ones_end s h = let e = sum_end s h in record { is = e.is; few = omega (arith, e.few) }

-- One word.
named-code : (x : ℕ) (a : Side) → code a ≡ 2 * x → is_name x a ≡ 1
named-code x (name y) e = let q : x ≡ y = omega arith in rw q (δ_same y)
named-code x (cell c) e = absurd (omega arith)

other_code : (x : ℕ) (a : Side) → ¬ (code a ≡ 2 * x) → is_name x a ≡ 0
other_code x (name y) e = δ_other (λ q. e (ap (λ z. 2 * z) (sym q)))
other_code x (cell c) e = refl

pub marked : (x word : ℕ) → cond (eqb word (2 * x)) 1 0 ≡ is_name x (side word)
marked x word = go (eqb word (2 * x)) refl
  where
    go : (t : Bool) → eqb word (2 * x) ≡ t → cond t 1 0 ≡ is_name x (side word)
    go true e = sym (named-code x (side word) (code-side word ∙ eqb-true word (2 * x) e))
    go false e = sym (other_code x (side word) (λ q. eqb-false word (2 * x) e (sym (code-side word) ∙ q)))

few_of : (t : Bool) → from_bool t ≤ 1
few_of true = omega arith
few_of false = omega arith

from_bool-cond : (t : Bool) → from_bool t ≡ cond t 1 0
from_bool-cond true = refl
from_bool-cond false = refl

pub mark_way : (l : List ℕ) (i x word v r : ℕ) → word ≡ get_or l i 0 → v ≡ word → r ≡ from_bool (eqb v (2 * x))
    → Found r (mark x l 0 i) 1
unfolding mark
mark_way l i x word v r e k f =
    let here : i ≡ 0 + i = omega arith in
    record {
      is = f ∙ from_bool-cond (eqb v (2 * x)) ∙ marked x v ∙ ap (λ w. is_name x (side w)) (k ∙ e) ∙ ap (λ m. is_name x (side (get_or l m 0))) here;
      few = rw f (few_of (eqb v (2 * x)));
    }

pub inside_way : (w : List ℕ) (s : St) (x c word n r : ℕ) → word ≡ get_or s.symbols c 0
    → (n ≡ width (under w).arities word) × (n ≤ arity_max) → Found r (total n (mark x s.arguments (arity_max * c))) n
    → Found r (inside (under w) s x c) arity_max
unfolding inside
inside_way w s x c word n r ew en f =
    record {
      is = f.is ∙ ap (λ k. total k (mark x s.arguments (arity_max * c))) (en.0 ∙ ap (width (under w).arities) ew);
      few = omega (arith, f.few, en.1);
    }

-- A cell with no arguments.
pub inside_none : (w : List ℕ) (s : St) (x c word n : ℕ) → word ≡ get_or s.symbols c 0 → (n ≡ width (under w).arities word) × (n ≤ arity_max)
    → n ≡ 0 → Found 0 (inside (under w) s x c) arity_max
unfolding inside total
inside_none w s x c word n e en z =
    record {
      is = sym (ap (λ k. total k (mark x s.arguments (arity_max * c))) (ap (width (under w).arities) (sym e) ∙ sym en.0 ∙ z));
      few = omega arith;
    }

hop_is : (n : ℕ) → from_bool (leb 2 n) ≡ hop (bond n)
hop_is ℕ.zero = refl
hop_is (ℕ.suc ℕ.zero) = refl
hop_is (ℕ.suc (ℕ.suc n)) = rw (le-leb 2 (suc (suc n)) (omega arith))

pub bound_way : (s : St) (x word r : ℕ) → word ≡ get_or s.names x 0 → r ≡ from_bool (leb 2 word) → Found r (bound_once s x) 1
unfolding bound_once
bound_way s x word r e f =
    record { is = f ∙ hop_is word ∙ ap (λ n. hop (bond n)) e; few = rw f (few_of (leb 2 word)) }

pub occurring_way : (T : Table) (s : St) (x f w k a b c d e : ℕ) → f ≡ s.face.used → w ≡ s.waiting.used → k ≡ s.stuck.used
    → Found a (total f (mark x s.face.words 0)) f → Found b (total (2 * w) (mark x s.waiting.words 0)) (2 * w)
    → Found c (total (2 * k) (mark x s.stuck.words 0)) (2 * k) → Found d (bound_once s x) 1
    → Found e (total cells_max (inside T s x)) (arity_max * cells_max)
    → a + (b + (c + (d + e))) ≡ occurring T s x
unfolding occurring
occurring_way T s x f w k a b c d e ef ew ek fa fb fc fd fe = rw (fa.is, fb.is, fc.is, fd.is, fe.is, ef, ew, ek)
