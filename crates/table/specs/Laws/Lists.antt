-- Laws of lists by number: their lengths, what stands at a number, and one block or one row changed.
use Prim.Native.Nat.{ℕ, suc, ◌+◌, ◌*◌, ◌<◌, ◌≤◌}
use Rattle.std.specs.Prelude.{◌≡◌, get_or, replicate}
use Rattle.std.proofs.Math.Path.{refl, ap, ap₂}
use Rattle.std.proofs.Common.{◌∙◌, ext_get_or, take_at}
use mathlib.Core.List.{List, [], ◌∷◌, ◌++◌}
use native.Mathlib.Omega.{arith}
use Rattle.std.proofs.Math.Nat.{mul-suc}
use Rattle.std.proofs.Math.ListN.{length, length-append, length-replicate, get_or-append}
use Rattle.std.proofs.Math.Seq.{get_or-append-add, drop-append-add}
use Rattle.parts.specs.Segments.{seg}
use Rattle.table.specs.Lists.{tab, blocks, row_of}

module _ {A : Type 0} where
  pub length-tab : (n : ℕ) (f : ℕ → A) → length (tab n f) ≡ n
  unfolding tab
  length-tab ℕ.zero f = refl
  length-tab (ℕ.suc n) f = ap suc (length-tab n (λ k. f (suc k)))

  pub tab_at : (n : ℕ) (f : ℕ → A) (k : ℕ) (d : A) → k < n → get_or (tab n f) k d ≡ f k
  unfolding tab
  tab_at ℕ.zero f k d h = absurd (omega arith)
  tab_at (ℕ.suc n) f ℕ.zero d h = refl
  tab_at (ℕ.suc n) f (ℕ.suc k) d h = tab_at n (λ k. f (suc k)) k d (omega arith)

  pub tab_cong : (n : ℕ) (f g : ℕ → A) → ((k : ℕ) → k < n → f k ≡ g k) → tab n f ≡ tab n g
  unfolding tab
  tab_cong ℕ.zero f g e = refl
  tab_cong (ℕ.suc n) f g e = ap₂ ◌∷◌ (e 0 (omega arith)) (tab_cong n (λ k. f (suc k)) (λ k. g (suc k)) (λ k h. e (suc k) (omega arith)))

  pub tab-snoc : (n : ℕ) (f : ℕ → A) → tab (suc n) f ≡ tab n f ++ (f n ∷ [])
  unfolding tab
  tab-snoc ℕ.zero f = refl
  tab-snoc (ℕ.suc n) f = ap (λ l. f 0 ∷ l) (tab-snoc n (λ k. f (suc k)))

  -- a list is what stands at each of its numbers
  pub tab_list : (xs : List A) (f : ℕ → A) (d : A) → ((k : ℕ) → k < length xs → f k ≡ get_or xs k d) → tab (length xs) f ≡ xs
  tab_list xs f d e = ext_get_or d (tab (length xs) f) xs (length-tab (length xs) f)
      (λ k h. let q : k < length xs = omega (arith, length-tab (length xs) f) in tab_at (length xs) f k d q ∙ e k q)

  pub length-row : (w : ℕ) (f : A → List ℕ) (xs : List A) (k : ℕ) → ((x : A) → length (f x) ≡ w) → length (row_of w f xs k) ≡ w
  unfolding row_of
  length-row w f [] k h = length-replicate w 0
  length-row w f (x ∷ xs) ℕ.zero h = h x
  length-row w f (x ∷ xs) (ℕ.suc k) h = length-row w f xs k h

  pub row_at : (w : ℕ) (f : A → List ℕ) (xs : List A) (k : ℕ) (d : A) → k < length xs → row_of w f xs k ≡ f (get_or xs k d)
  unfolding row_of
  row_at w f [] k d h = absurd (omega arith)
  row_at w f (x ∷ xs) ℕ.zero d h = refl
  row_at w f (x ∷ xs) (ℕ.suc k) d h = row_at w f xs k d (omega arith)

  pub row-past : (w : ℕ) (f : A → List ℕ) (xs : List A) (k : ℕ) → length xs ≤ k → row_of w f xs k ≡ replicate w 0
  unfolding row_of
  row-past w f [] k h = refl
  row-past w f (x ∷ xs) ℕ.zero h = absurd (omega arith)
  row-past w f (x ∷ xs) (ℕ.suc k) h = row-past w f xs k (omega arith)

  -- one element more
  pub row_new : (w : ℕ) (f : A → List ℕ) (xs : List A) (x : A) → row_of w f (xs ++ (x ∷ [])) (length xs) ≡ f x
  unfolding row_of
  row_new w f [] x = refl
  row_new w f (y ∷ ys) x = row_new w f ys x

  pub row_old : (w : ℕ) (f : A → List ℕ) (xs : List A) (x : A) (k : ℕ) → (k ≡ length xs → ⊥) → row_of w f (xs ++ (x ∷ [])) k ≡ row_of w f xs k
  unfolding row_of
  row_old w f [] x ℕ.zero h = absurd (h refl)
  row_old w f [] x (ℕ.suc k) h = refl
  row_old w f (y ∷ ys) x ℕ.zero h = refl
  row_old w f (y ∷ ys) x (ℕ.suc k) h = row_old w f ys x k (λ e. h (ap suc e))

-- Blocks of w numbers each.
module _ (w : ℕ) where
  pub length-blocks : (n : ℕ) (f : ℕ → List ℕ) → ((k : ℕ) → length (f k) ≡ w) → length (blocks n f) ≡ w * n
  unfolding blocks
  length-blocks ℕ.zero f h = omega arith
  length-blocks (ℕ.suc n) f h =
      let ih = length-blocks n (λ k. f (suc k)) (λ k. h (suc k)) in
      omega (arith, length-append (f 0) (blocks n (λ k. f (suc k))), ih, h 0, mul-suc w n)

  pub block_at : (n : ℕ) (f : ℕ → List ℕ) → ((k : ℕ) → length (f k) ≡ w) → (k : ℕ) → k < n → seg (w * k) w (blocks n f) ≡ f k
  unfolding blocks seg
  block_at ℕ.zero f h k q = absurd (omega arith)
  block_at (ℕ.suc n) f h ℕ.zero q =
      let e : w * 0 ≡ 0 = omega arith in rw e (take_at (f 0) (blocks n (λ k. f (suc k))) w (h 0))
  block_at (ℕ.suc n) f h (ℕ.suc k) q =
      let e : w * suc k ≡ length (f 0) + w * k = omega (arith, mul-suc w k, h 0) in
      rw (e, drop-append-add (f 0) (blocks n (λ k. f (suc k))) (w * k)) (block_at n (λ k. f (suc k)) (λ k. h (suc k)) k (omega arith))

  pub block_get : (n : ℕ) (f : ℕ → List ℕ) → ((k : ℕ) → length (f k) ≡ w) → (k j : ℕ) → k < n → j < w
      → get_or (blocks n f) (w * k + j) 0 ≡ get_or (f k) j 0
  unfolding blocks
  block_get ℕ.zero f h k j q p = absurd (omega arith)
  block_get (ℕ.suc n) f h ℕ.zero j q p =
      let e : w * 0 + j ≡ j = omega arith in
      rw e (get_or-append (f 0) (blocks n (λ k. f (suc k))) 0 j (omega (arith, h 0)))
  block_get (ℕ.suc n) f h (ℕ.suc k) j q p =
      let e : w * suc k + j ≡ length (f 0) + (w * k + j) = omega (arith, mul-suc w k, h 0) in
      rw (e, get_or-append-add (f 0) (blocks n (λ k. f (suc k))) (w * k + j) 0)
      (block_get n (λ k. f (suc k)) (λ k. h (suc k)) k j (omega arith) p)
