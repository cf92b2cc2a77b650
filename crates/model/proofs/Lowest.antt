-- `lowest` gives the lowest free numbers: each of them is free, there are as many as are wanted if there is room, they
-- rise, and no free number was passed by.
use Rattle.std.specs.Prelude.{◌≡◌, List, ℕ, ◌+◌, ◌≤◌, ◌<◌, length, get_or}
use Rattle.calculus.specs.Terms.{count}
use Rattle.model.specs.State.{used, lowest}
use Rattle.model.proofs.Beneath.Store.{lowest-many}
use Rattle.model.proofs.Beneath.Lows as Lows

module _ (n : ℕ) (l : List ℕ) where
  pub all_free : (j : ℕ) → j < length (lowest 0 n l)
      → (get_or (lowest 0 n l) j 0 < length l) × (get_or l (get_or (lowest 0 n l) j 0) 0 ≡ 0)
  all_free j h = Lows.all_free n l j h

  pub as_many : n + used l ≤ length l → length (lowest 0 n l) ≡ n
  as_many h = lowest-many n l h

  pub rising : (i j : ℕ) → i < j → j < length (lowest 0 n l) → get_or (lowest 0 n l) i 0 < get_or (lowest 0 n l) j 0
  rising i j o h = Lows.rises 0 n l i j o h

  pub none_passed : (i j : ℕ) → j < length (lowest 0 n l) → get_or l i 0 ≡ 0 → i < get_or (lowest 0 n l) j 0
      → 0 < count i (lowest 0 n l)
  none_passed i j h e o = Lows.none_passed n l i j h e o
