-- Lists by number: what stands at each number, blocks of one length laid end to end, and rows that are zero where there is nothing.
use Rattle.std.specs.Prelude.{ℕ, zero, suc, Bool, true, ◌&&◌, List, [], ◌∷◌, ◌++◌, get_or, replicate}

-- f 0, f 1 and so on, n of them
unfoldable pub tab : {A : Type 0} → ℕ → (ℕ → A) → List A
tab zero f = []
tab (suc n) f = f 0 ∷ tab n (λ k. f (suc k))

-- a test that holds at each number below n
unfoldable pub each : ℕ → (ℕ → Bool) → Bool
each zero p = true
each (suc n) p = each n p && p n

-- the lists f 0, f 1 and so on, n of them, end to end
unfoldable pub blocks : ℕ → (ℕ → List ℕ) → List ℕ
blocks zero f = []
blocks (suc n) f = f 0 ++ blocks n (λ k. f (suc k))

-- the n numbers of a list, with 0 past its end
abbrev pub filled : ℕ → List ℕ → List ℕ
filled n l = tab n (λ k. get_or l k 0)

-- the row of number k of a list; past its end w zeros
unfoldable pub row_of : {A : Type 0} → ℕ → (A → List ℕ) → List A → ℕ → List ℕ
row_of w f [] k = replicate w 0
row_of w f (x ∷ xs) zero = f x
row_of w f (x ∷ xs) (suc k) = row_of w f xs k
