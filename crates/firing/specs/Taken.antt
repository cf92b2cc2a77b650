-- New numbers: the lowest free ones, each with its word set and its code entered in the frame.
use Rattle.std.specs.Prelude.{◌≡◌, List, [], ◌∷◌, map, ℕ, suc, ◌+◌, ◌*◌, ◌<◌, ◌≤◌, length, get_or, set}
use Rattle.std.proofs.lemmas.List.Edits.{sets}
use Rattle.model.specs.State.{St, used, lowest}
use Rattle.state.specs.Places.{words, size, with_words}
use Rattle.state.specs.declared.Part.{Part}

-- The word v i, v (i + 1) and so on set at each of some places.
abbrev pub written : (ℕ → ℕ) → ℕ → List ℕ → List ℕ → List ℕ
written v i [] l = l
written v i (p ∷ ps) l = written v (suc i) ps (set l p (v i))

-- n places of a part taken, with these words; and their codes in the frame, from a place on.
unfoldable pub taken_on : Part → (ℕ → ℕ) → ℕ → St → St
taken_on p v n s = with_words p (written v 0 (lowest 0 n (words p s)) (words p s)) s

unfoldable pub entered : Part → ℕ → (ℕ → ℕ) → ℕ → St → List ℕ → List ℕ
entered p at c n s F = sets F at (map c (lowest 0 n (words p s)))

-- What that asks: there are as many free places, and none of them below `low`.
pub record Takeable (p : Part) (n low : ℕ) (s : St) : Type 0 where
  pub whole : length (words p s) ≡ size p
  pub room : n + used (words p s) ≤ size p
  pub fits : low ≤ size p
  pub below : (j : ℕ) → j < low → 0 < get_or (words p s) j 0

-- And what holds afterwards: the count, and that no place below `low` is free.
pub record Passed (p : Part) (n low : ℕ) (s s' : St) : Type 0 where
  pub count : used (words p s') ≡ used (words p s) + n
  pub fits : low ≤ size p
  pub below : (j : ℕ) → j < low → 0 < get_or (words p s') j 0

abbrev pub name_code : ℕ → ℕ
name_code x = 2 * x

abbrev pub cell_code : ℕ → ℕ
cell_code c = 1 + 2 * c
