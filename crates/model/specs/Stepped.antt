-- How the step on a picked equation is computed. `step-table` and `every-step` (StepTable.antt) say that it is the
-- row of the step table (Rows.antt) whose left column holds.
use Rattle.std.specs.Prelude.{ℕ, ◌+◌, ◌-◌, ◌≤◌, length}
use Rattle.std.proofs.Math.Decide.{ℕ_discrete, dec_lt, dec_le}
use Rattle.parts.specs.Limits.{cells_max, names_max, waiting_max, loops_max}
use Rattle.parts.specs.Sides.{Side, name, cell, Pair, ◌:=◌}
use Rattle.model.specs.State.{St, with_names, used}
use Rattle.model.specs.Table.{Entry, Table, none, straight, turned}
use Rattle.model.specs.Step.{Answer, moved, refused, place, picked, taken_out, put, held, fired, rule_of}
use Rattle.model.specs.Rows.{tie, join, free, count_loop}
use Rattle.model.specs.Follow.{follow}
use Rattle.model.specs.Decisions.{all_three}

-- Room for a rule's right side: none of what number 13 names passes its size (`Passes` in Rows.antt has the words).
-- Here the picked equation has left the list, so waiting is already less 1.
abbrev pub Room : Entry → St → Type 0
Room e s =
    (used s.symbols - 2 + length e.cells ≤ cells_max)
    × (used s.names + e.fresh ≤ names_max)
    × (s.waiting.used + length e.body ≤ waiting_max)

-- Two cells: if there is a rule and room for it, its right side is put; if there is no rule, the pair is stuck.
abbrev pub room : (e : Entry) (s : St) → Dec (Room e s)
room e s = all_three (dec_le _ _) (dec_le _ _) (dec_le _ _)

abbrev pub fire_if : Entry → ℕ → ℕ → St → Answer
fire_if e a b s = elim (room e s) [ yes h ↦ moved (fired e a b s) | no h ↦ refused 13 ]

abbrev pub meet : Table → ℕ → ℕ → St → Answer
meet T a b s =
    elim (rule_of T a b s) [
      | none ↦ moved (held a b s)
      | straight i e ↦ fire_if e a b s
      | turned i e ↦ fire_if e b a s
    ]

-- A name: each side is followed to its end. Then the two ends are fastened: a name to a cell is tied, two names are
-- joined, two cells are put as an equation; a name to itself is a loop. Number 13 for a loop: "the count is at its
-- end".
abbrev pub looped : ℕ → St → Answer
looped x s =
    elim (dec_lt s.loops loops_max) [ yes h ↦ moved (count_loop (free x s)) | no h ↦ refused 13 ]

abbrev pub fasten : Side → Side → St → Answer
fasten (name x) (name y) s = elim (ℕ_discrete x y) [ yes p ↦ looped x s | no p ↦ moved (join x y s) ]
fasten (name x) (cell c) s = moved (tie x c s)
fasten (cell c) (name y) s = moved (tie y c s)
fasten (cell a) (cell b) s = moved (put (cell a := cell b) s)

abbrev pub wire : Side → Side → St → Answer
wire a b s =
    let f = follow a s.names in
    let g = follow b f.names in
    fasten f.end g.end (with_names g.names s)

-- "U = x is treated as x = U."
abbrev pub act : Table → Pair → St → Answer
act T (name x := t) s = wire (name x) t s
act T (cell a := name y) s = wire (name y) (cell a) s
act T (cell a := cell b) s = meet T a b s

-- Number 12: "pick at or past the number waiting".
unfoldable pub stepped : Table → St → ℕ → Answer
stepped T s p =
    elim (dec_lt p s.waiting.used) [ yes h ↦ act T (picked s p) (taken_out (place s p) s) | no h ↦ refused 12 ]
