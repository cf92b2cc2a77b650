-- Two steps computed: the first of the listing, whose new cells take the lowest free numbers; and one without room.
use Rattle.std.specs.Prelude.{◌≡◌, refl, List, [], ◌∷◌, ℕ, suc, replicate, take}
use Rattle.std.proofs.Math.Decide.{ℕ_discrete, dec_lt, dec_le}
use Rattle.parts.specs.Limits.{waiting_max}
use Rattle.parts.specs.Sides.{name, cell, Pair, ◌:=◌, side}
use Rattle.model.specs.State.{listed}
use Rattle.model.specs.Table.{Table}
use Rattle.model.specs.Step.{moved, refused, Answer}
use Rattle.model.specs.Stepped.{stepped}
use Rattle.model.specs.Run.{run, ran}
use Rattle.model.specs.Walk.{noroom, paused}
use Rattle.model.specs.Load.{Net, loaded}

-- The rules of the listing: add 0, S 1, Z 2.
abbrev rules : Table
rules =
    record {
      arities = 2 ∷ 1 ∷ 0 ∷ [];
      rules =
          record {
            left = 0;
            right = 1;
            body = (name 0 := cell 0) ∷ (name 4 := cell 1) ∷ [];
            cells = record { symbol = 1; args = name 8 ∷ [] } ∷ record { symbol = 0; args = name 8 ∷ name 1 ∷ [] } ∷ [];
            fresh = 1;
          }
          ∷ record { left = 0; right = 2; body = (name 0 := name 1) ∷ []; cells = []; fresh = 0 }
          ∷ [];
    }

-- Its net: face r, add(r,S(Z)) = S(Z).
abbrev listing : Net
listing =
    record {
      face = name 0 ∷ [];
      equations = (cell 0 := cell 3) ∷ [];
      cells =
          record { symbol = 0; args = name 0 ∷ cell 1 ∷ [] }
          ∷ record { symbol = 1; args = cell 2 ∷ [] }
          ∷ record { symbol = 2; args = [] }
          ∷ record { symbol = 1; args = cell 4 ∷ [] }
          ∷ record { symbol = 2; args = [] }
          ∷ [];
      names = 1;
    }

-- New cells take the lowest free numbers, those just freed too: in the listing, add 0 with S 3 give S 0 and add 3, of
-- which the first is the head.
abbrev first_cells : Answer → List ℕ
first_cells (moved s) = take 6 s.symbols
first_cells (refused n) = []

abbrev waiting_of : Answer → List Pair
waiting_of (moved s) = listed s.waiting
waiting_of (refused n) = []

pub lowest_first : (first_cells (stepped rules (loaded listing) 0) ≡ 2 ∷ 2 ∷ 3 ∷ 1 ∷ 3 ∷ 0 ∷ [])
    × (waiting_of (stepped rules (loaded listing) 0) ≡ (name 0 := cell 0) ∷ (cell 4 := cell 3) ∷ [])
unfolding loaded stepped side ℕ_discrete dec_lt dec_le
lowest_first = (refl, refl)

-- "At the head, paused comes before noroom": a rule with one equation more than can wait, by budget 0 and 1. (Not a
-- sound table: its rule is too long.)
abbrev crowded : Table
crowded =
    record {
      arities = 0 ∷ 0 ∷ [];
      rules = record { left = 0; right = 1; body = replicate (suc waiting_max) (name 0 := name 0); cells = []; fresh = 0 } ∷ [];
    }

abbrev two_cells : Net
two_cells =
    record {
      face = [];
      equations = (cell 0 := cell 1) ∷ [];
      cells = record { symbol = 0; args = [] } ∷ record { symbol = 1; args = [] } ∷ [];
      names = 0;
    }

pub paused_first : ((ran crowded 0 (loaded two_cells)).stop ≡ paused) × ((ran crowded 1 (loaded two_cells)).stop ≡ noroom)
unfolding loaded ran run stepped side ℕ_discrete dec_lt dec_le
paused_first = (refl, refl)
