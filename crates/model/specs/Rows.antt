-- The step table as document 01 prints it, with the rows II.0 to III.e_e of document 001, Figure 2.
use Rattle.std.specs.Prelude.{◌≡◌, ◌⊎◌, ◌+◌, ◌-◌, ℕ, suc, ◌≤◌, ◌<◌, length, get_or, set}
use Rattle.parts.specs.Limits.{loops_max, names_max, cells_max, waiting_max}
use Rattle.parts.specs.Sides.{name, cell, Pair, ◌:=◌}
use Rattle.model.specs.State.{St, with_names, with_loops, bound, used}
use Rattle.model.specs.Table.{Entry, Table, none, straight, turned}
use Rattle.model.specs.Step.{put, held, fired, rule_of}

-- What the word of a name says of it: x is bare, is tied to the cell t, is joined to the name y.
abbrev pub Bare : St → ℕ → Type 0
Bare s x = get_or s.names x 0 ≡ 1

abbrev pub Tied : St → ℕ → ℕ → Type 0
Tied s x t = get_or s.names x 0 ≡ bound (cell t)

abbrev pub Joined : St → ℕ → ℕ → Type 0
Joined s x y = get_or s.names x 0 ≡ bound (name y)

-- What a row does: x is tied to the cell u; two names are joined, so that each tells of the other; x is free again;
-- one loop more.
abbrev pub tie : ℕ → ℕ → St → St
tie x u s = with_names (set s.names x (bound (cell u))) s

abbrev pub join : ℕ → ℕ → St → St
join x y s = with_names (set (set s.names x (bound (name y))) y (bound (name x))) s

abbrev pub free : ℕ → St → St
free x s = with_names (set s.names x 0) s

abbrev pub count_loop : St → St
count_loop s = with_loops (suc s.loops) s

-- Number 13 "for an interaction: cells in use, less 2, plus the rule's cells, passes 2,048; names in use plus the new
-- ones passes 2,048; waiting, less 1, plus the rule's equations, passes 1,024." Here n is "waiting, less 1".
abbrev pub Passes : Entry → ℕ → St → Type 0
Passes e n s =
    (cells_max < used s.symbols - 2 + length e.cells)
    ⊎ ((names_max < used s.names + e.fresh) ⊎ (waiting_max < n + length e.body))

-- "For a loop: the count is at its end. It is given in no other case". In s the equation still waits.
pub data NoRoom (T : Table) (s : St) : Pair → Type 0 where
  for_interaction : {a b i : ℕ} {e : Entry} → (rule_of T a b s ≡ straight i e) ⊎ (rule_of T a b s ≡ turned i e)
      → Passes e (s.waiting.used - 1) s → NoRoom T s (cell a := cell b)
  for_loop : {x : ℕ} → loops_max ≤ s.loops → NoRoom T s (name x := name x)
  for_joined_loop : {x y : ℕ} → Joined s x y → loops_max ≤ s.loops → NoRoom T s (name x := name y)

-- `Row T s e s'`: the step on the equation e leads from s, the state without that equation, to s'. Where there is room,
-- that is: a rule whose right side passes no size, a loop that can be counted.
pub data Row (T : Table) (s : St) : Pair → St → Type 0 where
  -- "two cells, rule": "both cells freed and zeroed, right side put in its order [..], new names fresh"
  rule : {a b i : ℕ} {e : Entry} → rule_of T a b s ≡ straight i e → ¬ Passes e s.waiting.used s
      → Row T s (cell a := cell b) (fired e a b s)
  rule_turned : {a b i : ℕ} {e : Entry} → rule_of T a b s ≡ turned i e → ¬ Passes e s.waiting.used s
      → Row T s (cell a := cell b) (fired e b a s)
  -- "two cells, no rule": "pair goes to the head of the stuck list"
  no_rule : {a b : ℕ} → rule_of T a b s ≡ none → Row T s (cell a := cell b) (held a b s)
  -- "x = U, x bare": "x tied to U" (II.0)
  bare : {x u : ℕ} → Bare s x → Row T s (name x := cell u) (tie x u s)
  -- "x = U, x joined to y": "join dropped, y tied to U" (II.c)
  joined_to : {x u : ℕ} (y : ℕ) → Joined s x y → Row T s (name x := cell u) (tie y u (free x s))
  -- "x = U, x tied to T": "tie dropped, T = U put" (II.e)
  tied_to : {x u : ℕ} (t : ℕ) → Tied s x t → Row T s (name x := cell u) (put (cell t := cell u) (free x s))
  -- "U = x is treated as x = U"
  exchanged : {x u : ℕ} {s' : St} → Row T s (name x := cell u) s' → Row T s (cell u := name x) s'
  -- "x = x, or x = y with x joined to y": "join if any dropped, loops + 1"
  loop : {x : ℕ} → Bare s x → s.loops < loops_max → Row T s (name x := name x) (count_loop (free x s))
  loop_joined : {x y : ℕ} → Joined s x y → s.loops < loops_max
      → Row T s (name x := name y) (count_loop (free y (free x s)))
  -- "x = y otherwise": "as Figure 2, III.0_0 to III.e_e"
  III_0_0 : {x y : ℕ} → Bare s x → Bare s y → ¬ (x ≡ y) → Row T s (name x := name y) (join x y s)
  III_0_c : {x y : ℕ} (w : ℕ) → Bare s x → Joined s y w → Row T s (name x := name y) (join x w (free y s))
  III_0_e : {x y : ℕ} (u : ℕ) → Bare s x → Tied s y u → Row T s (name x := name y) (tie x u (free y s))
  III_c_0 : {x y : ℕ} (z : ℕ) → Joined s x z → Bare s y → Row T s (name x := name y) (join z y (free x s))
  III_c_c : {x y : ℕ} (z w : ℕ) → Joined s x z → Joined s y w → ¬ (x ≡ y) → ¬ (z ≡ y)
      → Row T s (name x := name y) (join z w (free y (free x s)))
  III_c_e : {x y : ℕ} (z u : ℕ) → Joined s x z → Tied s y u
      → Row T s (name x := name y) (tie z u (free y (free x s)))
  III_e_0 : {x y : ℕ} (t : ℕ) → Tied s x t → Bare s y → Row T s (name x := name y) (tie y t (free x s))
  III_e_c : {x y : ℕ} (t w : ℕ) → Tied s x t → Joined s y w
      → Row T s (name x := name y) (tie w t (free y (free x s)))
  III_e_e : {x y : ℕ} (t u : ℕ) → Tied s x t → Tied s y u → ¬ (x ≡ y)
      → Row T s (name x := name y) (put (cell t := cell u) (free y (free x s)))
