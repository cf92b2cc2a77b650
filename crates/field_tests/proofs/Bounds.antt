-- The size pass: what its loop has shown.
use Rattle.std.specs.Prelude.{ℕ, zero, suc, pred, ◌+◌, ◌-◌, ◌≤◌, ◌<◌, ◌≡◌, Bool, true, false, cond, List, length, get_or, drop, eqb}
use Rattle.std.proofs.Common.{sym, ◌∙◌, arith, add-one, drop-cons, drop_of_length-le}
use Rattle.texts.specs.Bytes.{word_byte}
use Rattle.texts.specs.Walk.{depth}
use Rattle.field_tests.specs.Sized.{passes, begun, big_from, big_at}

depth-most : (d b : ℕ) → depth d b ≤ d + 1
unfolding depth
depth-most d b = go (eqb b 40) (eqb b 41)
  where
    less : (d : ℕ) → pred d ≤ d + 1
    less zero = omega arith
    less (suc d) = omega arith

    go : (t u : Bool) → cond t (suc d) (cond u (pred d) d) ≤ d + 1
    go true u = omega arith
    go false true = less d
    go false false = omega arith

begun-most : (start i b : ℕ) → start ≤ i → begun start i b ≤ i + 1
unfolding begun
begun-most start i b h = go (word_byte b)
  where
    go : (t : Bool) → cond t start (i + 1) ≤ i + 1
    go true = omega arith
    go false = omega arith

-- the loop at i
pub record Sought (l : List ℕ) (deep start i : ℕ) : Type 0 where
  pub shallow : deep ≤ i
  pub behind : start ≤ i
  pub rest : big_at l ≡ big_from i start deep (drop i l)

module _ (l : List ℕ) (deep start i : ℕ) (s : Sought l deep start i) where
  module _ (lt : i < length l) (t : Bool) (w : t ≡ passes deep (i - start) (get_or l i 0)) where
    pub sought_more : t ≡ false → (start' deep' : ℕ) → start' ≡ begun start i (get_or l i 0)
        → deep' ≡ depth deep (get_or l i 0) → Sought l deep' start' (i + 1)
    unfolding big_from
    sought_more k start' deep' e g = record {
      shallow = omega (arith, s.shallow, depth-most deep (get_or l i 0));
      behind = omega (arith, begun-most start i (get_or l i 0) s.behind);
      rest = s.rest ∙ rw (drop-cons l i 0 lt, ← w, k, e, g, add-one);
    }

    pub sought_hit : t ≡ true → start ≡ big_at l
    unfolding big_from
    sought_hit k = sym (s.rest ∙ rw (drop-cons l i 0 lt, ← w, k))

  pub sought_end : length l ≤ i → i ≤ length l → length l ≡ big_at l
  unfolding big_from
  sought_end le ge = let e : i ≡ big_at l = sym (s.rest ∙ rw (drop_of_length-le l le)) in omega (arith, e)
