-- The words of numbers in a row, and new names numbered as they are met.
use Prim.Native.Nat.{ℕ, zero, suc, ◌+◌, ◌<◌, ◌≤◌}
use Rattle.std.specs.Prelude.{◌≡◌, Bool, cond, ◌&&◌, length, ltb}
use Rattle.std.proofs.Math.Path.{refl, sym, ap}
use Rattle.std.proofs.Common.{◌∙◌, ⊎_elim}
use Rattle.std.proofs.Math.Bool.{true, false, not}
use mathlib.Core.List.Memᴰ
use mathlib.Core.List.{List, [], ◌∷◌, map}
use native.Mathlib.Omega.{arith}
use Rattle.std.proofs.Math.Dec.{eqb, leb}
use borrow.Author.Tests.{eqb-true, eqb-false, le-leb, lt-leb, leb-true, leb-false, ltb-true}
use Rattle.texts.specs.Bytes.{Word, keep, same, among, different, index_of, In, Distinct}
use Rattle.texts.specs.RuleText.{word_at}
use Rattle.texts.specs.Coded.{new_from}
use Rattle.texts.specs.TableTest.{numbered}
use Rattle.texts.proofs.Beneath.Tools.{both, among_in, in_among}
use Rattle.texts.proofs.Beneath.Places.{at_in, index_word, different_in, keep-keep, keep-every}
use Rattle.texts.proofs.Beneath.Respelt.{most, word, number_in, word_back, word_same}

unfoldable pub up_from : ℕ → ℕ → List ℕ
up_from k zero = []
up_from k (suc n) = k ∷ up_from (suc k) n

-- The words of the n numbers from k on.
abbrev pub row : ℕ → ℕ → List Word
row k n = map word (up_from k n)

pub row-length : (n k : ℕ) → length (row k n) ≡ n
unfolding up_from
row-length zero k = refl
row-length (suc n) k = ap suc (row-length n (suc k))

row_at : (n k i : ℕ) → i < n → word_at i (row k n) ≡ word (k + i)
unfolding up_from word_at
row_at zero k i h = absurd (omega (arith, h))
row_at (suc n) k zero h = let z : k + 0 ≡ k = omega arith in rw z
row_at (suc n) k (suc i) h = let z : k + suc i ≡ suc k + i = omega arith in rw z (row_at n (suc k) i (omega (arith, h)))

pub row_in : (n k : ℕ) (w : Word) → In w (row k n) → (i : ℕ) × (k ≤ i) × (i < k + n) × (w ≡ word i)
unfolding up_from
row_in zero k w m = absurd (Memᴰ.not-nil m)
row_in (suc n) k w m =
    ⊎_elim (λ e. (k, omega arith, omega arith, e))
    (λ j. let p = row_in n (suc k) w j in let a = p.1 in let b = p.2 in (p.0, omega (arith, a), omega (arith, b), p.3)) (Memᴰ.cases_cons m)

same_number : (i j : ℕ) → i < most → j < most → word i ≡ word j → i ≡ j
same_number i j h l e = sym (word_back i h) ∙ (ap number_in e ∙ word_back j l)

pub row-distinct : (n k : ℕ) → k + n ≤ most → Distinct (row k n)
unfolding up_from Distinct
row-distinct zero k h = tt
row-distinct (suc n) k h = (
  λ m. let p = row_in n (suc k) (word k) m in
      let a = p.1 in
      let b = p.2 in
      let z : k ≡ p.0 = same_number k p.0 (omega (arith, h)) (omega (arith, a, b, h)) p.3 in
      omega (arith, a, z),
  row-distinct n (suc k) (omega (arith, h)),
)

pub row_index : (n k j : ℕ) → k + n ≤ most → j < n → (among (word (k + j)) (row k n) ≡ true) × (index_of (word (k + j)) (row k n) ≡ j)
row_index n k j h l =
    let i : j < length (row k n) = rw (row-length n k) l in
    let e : word_at j (row k n) ≡ word (k + j) = row_at n k j l in (
      in_among (word (k + j)) _ (Memᴰ.cast (sym e) (at_in j (row k n) i)),
      ap (λ w. index_of w (row k n)) (sym e) ∙ index_word j (row k n) i (row-distinct n k h),
    )

-- A number that is not in the row.
pub row_none : (n k x : ℕ) → k + n ≤ most → x < most → (k ≤ x → k + n ≤ x) → among (word x) (row k n) ≡ false
row_none n k x h l out = go (among (word x) (row k n)) refl
  where
    go : (u : Bool) → among (word x) (row k n) ≡ u → u ≡ false
    go true e =
        let p = row_in n k (word x) (among_in (word x) _ e) in
        let a = p.1 in
        let b = p.2 in
        let z : x ≡ p.0 = same_number x p.0 l (omega (arith, b, h)) p.3 in
        let o = out (omega (arith, a, z)) in
        absurd (omega (arith, b, z, o))
    go false e = refl

-- The new ones of some names.
abbrev pub news : List ℕ → List ℕ
news xs = keep (λ x. leb new_from x) xs

numbered-most : (total : ℕ) (xs : List ℕ) (n : ℕ) → numbered total n xs ≡ true → n ≤ total
unfolding numbered
numbered-most total [] n h = let z = eqb-true n total h in omega (arith, z)
numbered-most total (x ∷ xs) n h = go (eqb x (new_from + n)) h (numbered-most total xs (suc n)) (numbered-most total xs n)
  where
    go : (u : Bool) → cond u (numbered total (suc n) xs) (ltb x (new_from + n) && numbered total n xs) ≡ true → (numbered total (suc n) xs ≡ true → suc n ≤ total)
        → (numbered total n xs ≡ true → n ≤ total) → n ≤ total
    go true k a b = let z = a k in omega (arith, z)
    go false k a b = b (both (ltb x (new_from + n)) (numbered total n xs) k).1

-- Words of numbers in range, from new_from on.
abbrev Few : List ℕ → Type 0
Few is = (w : Word) → In w (map word is) → (i : ℕ) × (new_from ≤ i) × (i < most) × (w ≡ word i)

few : (i : ℕ) (is : List ℕ) → new_from ≤ i → i < most → Few is → Few (i ∷ is)
few i is c a b w m = ⊎_elim (λ e. (i, c, a, e)) (λ j. b w j) (Memᴰ.cases_cons m)

-- What is known of the later names, from new name number j on.
abbrev Rest : ℕ → List ℕ → ℕ → Type 0
Rest total is j =
    ((k : ℕ) × (j + k ≡ total) × (keep (λ w. leb (new_from + j) (number_in w)) (different (map word is)) ≡ row (new_from + j) k)) × Few is

module _ (total : ℕ) (t : new_from + total ≤ most) where
  at_next : (is : List ℕ) (n : ℕ) → Rest total is (suc n) → Rest total ((new_from + n) ∷ is) n
  unfolding keep different up_from
  at_next is n p =
      let q = p.0 in
      let a = q.1 in
      let l : new_from + n < most = omega (arith, a, t) in
      let y : leb (new_from + n) (number_in (word (new_from + n))) ≡ true = rw (word_back (new_from + n) l) (le-leb (new_from + n) (new_from + n) (omega arith)) in
      let s : new_from + suc n ≡ suc (new_from + n) = omega arith in (
        (
          suc q.0,
          omega (arith, a),
          rw y
              (ap (λ r. word (new_from + n) ∷ r)
              (keep-keep (λ w. leb (new_from + n) (number_in w)) (λ v. not (same (word (new_from + n)) v)) (λ w. leb (new_from + suc n) (number_in w)) (different (map word is))
              (λ x m. let b = p.1 x (different_in x (map word is) m) in
              rw (b.3, word_same (new_from + n) b.0 l b.2, word_back b.0 b.2) (step b.0 (eqb (new_from + n) b.0) refl))
              ∙ (q.2 ∙ ap (λ j. row j q.0) s))),
        ),
        few (new_from + n) is (omega arith) l p.1,
      )
    where
      step : (j : ℕ) (u : Bool) → eqb (new_from + n) j ≡ u → (not u && leb (new_from + n) j) ≡ leb (new_from + suc n) j
      step j true e = let z : new_from + n ≡ j = eqb-true (new_from + n) j e in sym (lt-leb (new_from + suc n) j (omega (arith, z)))
      step j false e = let z : new_from + n ≡ j → ⊥ = eqb-false (new_from + n) j e in by_less (leb (new_from + n) j) (leb (new_from + suc n) j) refl refl z
        where
          by_less : (u v : Bool) → leb (new_from + n) j ≡ u → leb (new_from + suc n) j ≡ v → (new_from + n ≡ j → ⊥) → u ≡ v
          by_less true true a b z = refl
          by_less false false a b z = refl
          by_less true false a b z = let c = leb-true (new_from + n) j a in let d = leb-false (new_from + suc n) j b in absurd (z (omega (arith, c, d)))
          by_less false true a b z = let c = leb-false (new_from + n) j a in let d = leb-true (new_from + suc n) j b in absurd (omega (arith, c, d))

  at_known : (is : List ℕ) (i n : ℕ) → new_from ≤ i → i < new_from + n → i < most → Rest total is n → Rest total (i ∷ is) n
  unfolding keep different
  at_known is i n c h l p =
      let q = p.0 in
      let y : leb (new_from + n) (number_in (word i)) ≡ false = rw (word_back i l) (lt-leb (new_from + n) i h) in (
        (
          q.0,
          q.1,
          rw y
              (keep-keep (λ w. leb (new_from + n) (number_in w)) (λ v. not (same (word i) v)) (λ w. leb (new_from + n) (number_in w)) (different (map word is))
              (λ x m. let b = p.1 x (different_in x (map word is) m) in rw (b.3, word_same i b.0 l b.2, word_back b.0 b.2) (step b.0 (eqb i b.0) refl)) ∙ q.2),
        ),
        few i is c l p.1,
      )
    where
      step : (j : ℕ) (u : Bool) → eqb i j ≡ u → (not u && leb (new_from + n) j) ≡ leb (new_from + n) j
      step j true e = let z : i ≡ j = eqb-true i j e in sym (lt-leb (new_from + n) j (omega (arith, z, h)))
      step j false e = refl

  numbered-row : (xs : List ℕ) (n : ℕ) → numbered total n xs ≡ true → Rest total (news xs) n
  unfolding numbered keep different up_from
  numbered-row [] n h = ((0, (let z = eqb-true n total h in omega (arith, z)), refl), λ w m. absurd (Memᴰ.not-nil m))
  numbered-row (x ∷ xs) n h = go (eqb x (new_from + n)) refl h (numbered-most total xs n) (numbered-row xs)
    where
      old : (u : Bool) → leb new_from x ≡ u → x < new_from + n → n ≤ total → Rest total (news xs) n → Rest total (cond u (x ∷ news xs) (news xs)) n
      old true d a l p = at_known (news xs) x n (leb-true new_from x d) a (omega (arith, a, t, l)) p
      old false d a l p = p

      go : (u : Bool) → eqb x (new_from + n) ≡ u → cond u (numbered total (suc n) xs) (ltb x (new_from + n) && numbered total n xs) ≡ true
          → (numbered total n xs ≡ true → n ≤ total) → ((j : ℕ) → numbered total j xs ≡ true → Rest total (news xs) j) → Rest total (news (x ∷ xs)) n
      go true e k l ih =
          let z : x ≡ new_from + n = eqb-true x (new_from + n) e in
          rw (z, le-leb new_from (new_from + n) (omega arith)) (at_next (news xs) n (ih (suc n) k))
      go false e k l ih =
          let p = both (ltb x (new_from + n)) (numbered total n xs) k in old (leb new_from x) refl (ltb-true x (new_from + n) p.0) (l p.1) (ih n p.1)

  -- The new names of what is numbered so are the words in a row.
  pub new_row : (xs : List ℕ) → numbered total 0 xs ≡ true → different (map word (news xs)) ≡ row new_from total
  new_row xs h =
      let p = numbered-row xs 0 h in
      let a = p.0.1 in
      let z : p.0.0 ≡ total = omega (arith, a) in
      let y : new_from + 0 ≡ new_from = omega arith in
      sym
      (keep-every (λ w. leb (new_from + 0) (number_in w)) (different (map word (news xs)))
      (λ w m. let b = p.1 w (different_in w (map word (news xs)) m) in rw (b.3, word_back b.0 b.2) (le-leb (new_from + 0) b.0 (let c = b.1 in omega (arith, c)))))
      ∙ (p.0.2 ∙ rw (y, z))
