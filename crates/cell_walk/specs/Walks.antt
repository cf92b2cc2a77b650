-- The walk over cells as the code makes it: some sides are walked, and then what is to be looked at after them.
use Rattle.std.specs.Prelude.{◌≡◌, Bool, true, false, Option, Some, None, List, [], ◌∷◌, ◌++◌, ℕ, zero, suc, ◌<◌, ◌≤◌, eqb, length, get_or, set}
use Rattle.parts.specs.Limits.{cells_max, names_max}
use Rattle.parts.specs.Sides.{Side, name, cell, side}
use Rattle.model.specs.State.{St}
use Rattle.model.specs.Sound.{Sizes, live, mem_of}
use Rattle.model.specs.Table.{Cell}
use Rattle.model.specs.Test.{Search, lost, saw, roots}
use Rattle.sound.specs.Lent.{under}

-- `Walks mem ss todo seen r`: the model's search, from these sides and with these cells seen, comes to r, if it is given enough steps.
pub data Walks (mem : ℕ → Cell) (ss : List ℕ) : List Side → List ℕ → Search → Type 0 where
  done : {seen : List ℕ} → Walks mem ss [] seen (saw seen)
  past : {x : ℕ} {todo : List Side} {seen : List ℕ} {r : Search} → x < names_max → Walks mem ss todo seen r
      → Walks mem ss (name x ∷ todo) seen r
  beyond : {x : ℕ} {todo : List Side} {seen : List ℕ} → names_max ≤ x → Walks mem ss (name x ∷ todo) seen lost
  again : {c : ℕ} {todo : List Side} {seen : List ℕ} → ¬ (get_or seen c 0 ≡ 0) → Walks mem ss (cell c ∷ todo) seen lost
  unused : {c : ℕ} {todo : List Side} {seen : List ℕ} → get_or ss c 0 ≡ 0 → Walks mem ss (cell c ∷ todo) seen lost
  into : {c : ℕ} {todo : List Side} {seen : List ℕ} {r : Search} → get_or seen c 0 ≡ 0 → ¬ (get_or ss c 0 ≡ 0)
      → Walks mem ss ((mem c).args ++ todo) (set seen c 1) r → Walks mem ss (cell c ∷ todo) seen r

-- How many cells are not yet met.
unfoldable pub unmet : List ℕ → ℕ
unmet [] = 0
unmet (zero ∷ l) = suc (unmet l)
unmet (suc v ∷ l) = unmet l

-- What follows when some sides were walked: the rest, if all was well.
abbrev pub After : (ℕ → Cell) → List ℕ → Bool → List Side → List ℕ → Search → Type 0
After mem ss true todo seen r = Walks mem ss todo seen r
After mem ss false todo seen r = r ≡ lost

-- The sides l are walked, and leave these cells seen.
pub record Steps (mem : ℕ → Cell) (ss : List ℕ) (l : List Side) (seen : List ℕ) (ok : Bool) (seen' : List ℕ) : Type 0 where
  pub goes : (todo : List Side) (r : Search) → After mem ss ok todo seen' r → Walks mem ss (l ++ todo) seen r
  pub size : length seen' ≡ length seen
  pub falls : unmet seen' ≤ unmet seen

-- So for the cells of a state under a lent table.
abbrev pub Walked : List ℕ → St → List Side → List ℕ → Bool → List ℕ → Type 0
Walked w s l seen ok seen' = Steps (mem_of (under w) s) s.symbols l seen ok seen'

-- The sides that n words stand for, from place `from` on.
unfoldable pub row : List ℕ → ℕ → ℕ → List Side
row l from zero = []
row l from (suc n) = side (get_or l from 0) ∷ row l (suc from) n

-- Cell c may not be entered; or it is entered and marked, and r is the word of its symbol.
pub data Entered (ss : List ℕ) (c : ℕ) (seen : List ℕ) : Option ℕ → List ℕ → Type 0 where
  barred : ((mem : ℕ → Cell) (todo : List Side) → Walks mem ss (cell c ∷ todo) seen lost) → Entered ss c seen None seen
  entered : {r : ℕ} → ¬ (r ≡ 0) → r ≡ get_or ss c 0 → get_or seen c 0 ≡ 0 → c < length seen → Entered ss c seen (Some r) (set seen c 1)

-- What the walk asks of the state and of the marks of the cells seen.
pub record Ready (s : St) (seen : List ℕ) : Type 0 where
  pub sizes : Sizes s
  pub marks : length seen ≡ cells_max

-- All sides that the walk begins from.
unfoldable pub all_roots : St → List Side
all_roots s = roots s

-- Cell c was seen exactly if it is in use.
unfoldable pub met : List ℕ → List ℕ → ℕ → Bool
met ss seen c = eqb (get_or seen c 0) (live ss c)
