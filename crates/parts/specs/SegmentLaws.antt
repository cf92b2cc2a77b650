-- Laws of the parts of a lent array: what a read finds in one, and what a store does to it and to the others.
use Rattle.std.specs.Prelude.{ℕ, ◌+◌, ◌-◌, ◌<◌, ◌≤◌, ◌≡◌, refl, Bool, true, false, List, leb, ltb, eqb, length, get_or, drop, set}
use Rattle.std.proofs.Common.{ap, sym, ◌∙◌, arith, get_or-take, get_or-drop, get_or-set_other, ext_get_or}
use Rattle.std.proofs.Math.ListN.{length-take}
use Rattle.std.proofs.Math.Seq.{drop-set-add, take-set-lt, drop-set-lt}
use Rattle.std.proofs.lemmas.List.{take-set-le}
use borrow.Author.Tests.{leb-true, ltb-true, ltb-false, eqb-false}
use Rattle.parts.specs.Segments.{seg}

-- Tests of numerals stand as equations of truth values, which compute.
module _ (at n : ℕ) (w : List ℕ) where
  pub seg_get : (i : ℕ) → i < n → get_or (seg at n w) i 0 ≡ get_or w (at + i) 0
  unfolding seg
  seg_get i h = rw (get_or-take, get_or-drop)

  pub seg-set : (i v : ℕ) → i < n → seg at n (set w (at + i) v) ≡ set (seg at n w) i v
  unfolding seg
  seg-set i v h = rw (drop-set-add, take-set-lt)

  -- a store into another part, which begins at b, where that stands behind this one
  pub seg-behind : (b i v : ℕ) → leb (at + n) b ≡ true → seg at n (set w (b + i) v) ≡ seg at n w
  unfolding seg
  seg-behind b i v h =
      let e : b + i ≡ at + (b + i - at) = omega (arith, leb-true) in
      let b : n ≤ b + i - at = omega (arith, leb-true) in
      rw (e, drop-set-add, take-set-le)

  -- a store of a count that stands before it
  pub seg-count : (j v : ℕ) → ltb j at ≡ true → seg at n (set w j v) ≡ seg at n w
  unfolding seg
  seg-count j v t = let l : j < at = ltb-true _ _ t in rw drop-set-lt

  -- a part is no longer than its size, whatever is lent
  pub seg-length : length (seg at n w) ≤ n
  unfolding seg
  seg-length = omega (arith, length-take n (drop at w))

-- a store into another part of m numbers, which begins at b, where that stands before this one
pub seg_before : {m i : ℕ} → i < m → (at n : ℕ) (w : List ℕ) (b v : ℕ) → leb (b + m) at ≡ true
    → seg at n (set w (b + i) v) ≡ seg at n w
unfolding seg
seg_before {m} {i} h at n w b v t = let l : b + i < at = omega (arith, leb-true) in rw drop-set-lt

-- a count, after a store into a part that begins at b, and after a store of another count
pub count-seg : (w : List ℕ) (b i v j : ℕ) → ltb j b ≡ true → get_or (set w (b + i) v) j 0 ≡ get_or w j 0
count-seg w b i v j t = get_or-set_other w (b + i) j v 0 (λ e. omega (arith, ltb-true))

pub count-count : (w : List ℕ) (k v j : ℕ) → eqb j k ≡ false → get_or (set w k v) j 0 ≡ get_or w j 0
count-count w k v j t = get_or-set_other w k j v 0 (eqb-false j k t)

-- Two arrays that agree part by part agree in every number.
module _ (v w : List ℕ) where
  -- the first n numbers are the same
  abbrev pub Agree : ℕ → Type 0
  Agree n = (i : ℕ) → i < n → get_or v i 0 ≡ get_or w i 0

  pub agree_none : Agree 0
  agree_none i h = absurd (omega arith)

  pub agree-part : (at n : ℕ) → Agree at → seg at n v ≡ seg at n w → Agree (at + n)
  agree-part at n a e i h = go (ltb i at) refl
    where
      go : (t : Bool) → ltb i at ≡ t → get_or v i 0 ≡ get_or w i 0
      go true q = a i (ltb-true _ _ q)
      go false q =
          let k : at + (i - at) ≡ i = omega (arith, ltb-false) in
          let b : i - at < n = omega (arith, ltb-false) in
          rw (seg_get at n v (i - at) b, seg_get at n w (i - at) b, k) at (ap (λ l. get_or l (i - at) 0) e)

  pub agree-word : (k : ℕ) → Agree k → get_or v k 0 ≡ get_or w k 0 → Agree (k + 1)
  agree-word k a e i h = go (ltb i k) refl
    where
      go : (t : Bool) → ltb i k ≡ t → get_or v i 0 ≡ get_or w i 0
      go true q = a i (ltb-true _ _ q)
      go false q = let z : i ≡ k = omega (arith, ltb-false) in rw z e

  pub agree_all : (n : ℕ) → length v ≡ n → length w ≡ n → Agree n → v ≡ w
  agree_all n hv hw a = ext_get_or 0 v w (hv ∙ sym hw) (λ i h. a i (omega arith))
