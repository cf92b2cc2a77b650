-- One law for each way out of the look-ups. Assumes nothing.
use lib.Pointwise.{pointwise}
use Rattle.std.specs.Prelude.{eqb, None, Some, ℕ, suc, ◌+◌, ◌-◌, ◌*◌, ◌<◌, ◌≤◌, ◌≡◌, refl, Bool, true, false, cond, List, [], ◌∷◌, length, get_or, take, drop}
use Rattle.std.proofs.Common.{sym, ◌∙◌, arith, length-take-le, eq-eqb, ne_eqb}
use native.Mathlib.Nat.{sub-zero}
use Rattle.parts.specs.Limits.{identifier_max, symbols_max, agent_size}
use Rattle.texts.specs.Bytes.{Word, same, index_of}
use Rattle.scan.specs.Places.{place, is}
use Rattle.scan.proofs.Compare.{same_told}
use Rattle.scan.specs.Laws.Placing.{place_le}
use Rattle.scan.specs.Cutting.{up_to}
use Rattle.terms.specs.Agents.{spelling_at, agents_from, agents_of}
use Rattle.terms.specs.Words.{known, found, entry, entries_from, entries}

-- what is cut off a row ends within it
pub cut_whole : (row : List ℕ) {n : ℕ} → n ≡ place (is 0) row → n ≡ length (take n row)
cut_whole row e = sym (length-take-le _ row (rw e (place_le (is 0) row)))

pub agent_way : (bytes row word : List ℕ) (at n : ℕ) {r : Bool} → row ≡ take identifier_max (drop at bytes)
    → n ≡ place (is 0) row
    → r ≡ pointwise eqb word (take n row) → r ≡ same word (spelling_at at bytes)
unfolding spelling_at up_to
agent_way bytes row word at n e m q = q ∙ (same_told word (take n row) ∙ rw (m, e))

-- the first k agents are passed
pub record Looked (bytes : List ℕ) (w : Word) (k : ℕ) : Type 0 where
  pub within : k ≤ symbols_max
  pub rest : found k (agents_from (symbols_max - k) k bytes) w ≡ found 0 (agents_of bytes) w

pub looked_none : (bytes : List ℕ) (w : Word) → Looked bytes w 0
unfolding agents_of
looked_none bytes w = record { within = omega arith; rest = refl }

-- the row of number k
rows_none : (n k : ℕ) (bytes : List ℕ) → get_or bytes (agent_size * k + identifier_max) 0 ≡ 0
    → agents_from (suc n) k bytes ≡ []
unfolding agents_from
rows_none n k bytes e = rw (eq-eqb (get_or bytes (agent_size * k + identifier_max) 0) 0 e)

rows_some : (n k : ℕ) (bytes : List ℕ) → (get_or bytes (agent_size * k + identifier_max) 0 ≡ 0 → ⊥)
    → agents_from (suc n) k bytes ≡ record { symbol = spelling_at (agent_size * k) bytes; arity = get_or bytes (agent_size * k + identifier_max) 0 - 1 } ∷ agents_from n (k + 1) bytes
unfolding agents_from
rows_some n k bytes e = rw (ne_eqb (get_or bytes (agent_size * k + identifier_max) 0) 0 e)

module _
    {bytes : List ℕ} {w : Word} {k : ℕ} (l : Looked bytes w k) (more : k < symbols_max) (a : ℕ) (last : a ≡ get_or bytes
    (agent_size * k + identifier_max) 0) where
  left : symbols_max - k ≡ suc (symbols_max - (k + 1))
  left = omega arith

  pub looked_past : a ≡ 0 → None ≡ found 0 (agents_of bytes) w
  unfolding found
  looked_past z = rw (left, rows_none (symbols_max - (k + 1)) k bytes (sym last ∙ z)) at l.rest

  module _ (some : a ≡ 0 → ⊥) where
    row : found k (agents_from (symbols_max - k) k bytes) w
        ≡ cond (same w (spelling_at (agent_size * k) bytes)) (Some (known k (a - 1))) (found (k + 1) (agents_from (symbols_max - (k + 1)) (k + 1) bytes) w)
    unfolding found
    row = rw (left, rows_some (symbols_max - (k + 1)) k bytes (λ z. some (last ∙ z)), last)

    pub looked_here : (t : Bool) → t ≡ same w (spelling_at (agent_size * k) bytes) → t ≡ true → (m : ℕ) → m ≡ a
        → Some (known k (m - 1)) ≡ found 0 (agents_of bytes) w
    looked_here t e y m q = rw q (sym (row ∙ rw (← e, y)) ∙ l.rest)

    pub looked_more : (t : Bool) → t ≡ same w (spelling_at (agent_size * k) bytes) → t ≡ false → Looked bytes w (k + 1)
    looked_more t e y = record { within = omega arith; rest = sym (row ∙ rw (← e, y)) ∙ l.rest }

pub looked_end : {bytes : List ℕ} {w : Word} {k : ℕ} → Looked bytes w k → symbols_max ≤ k
    → None ≡ found 0 (agents_of bytes) w
unfolding found agents_from
looked_end {bytes} {w} {k} l h = let e : symbols_max - k ≡ 0 = omega arith in rw e at l.rest

-- the spelling of name k
pub name_way : (text places part word : List ℕ) (k p n : ℕ) {r : Bool} → p ≡ get_or places (2 * k) 0
    → n ≡ get_or places (2 * k + 1) 0
    → part ≡ take n (drop p text) → r ≡ pointwise eqb word part → r ≡ same word (entry text places k)
unfolding entry
name_way text places part word k p n ep en e q = q ∙ (same_told word part ∙ rw (e, ep, en))

-- the first k of n names are passed
pub record Sought (text places : List ℕ) (n : ℕ) (w : Word) (k : ℕ) : Type 0 where
  pub within : k ≤ n
  pub rest : index_of w (entries text places n) ≡ k + index_of w (entries_from text places k (n - k))

pub sought_none : (text places : List ℕ) (n : ℕ) (w : Word) → Sought text places n w 0
unfolding entries
sought_none text places n w = record { within = omega arith; rest = rw sub-zero (omega arith) }

module _ {text places : List ℕ} {n : ℕ} {w : Word} {k : ℕ} (s : Sought text places n w k) where
  module _ (more : k < n) (t : Bool) (e : t ≡ same w (entry text places k)) where
    here : index_of w (entries_from text places k (n - k)) ≡ cond t 0 (suc (index_of w (entries_from text places (k + 1) (n - (k + 1)))))
    unfolding entries_from index_of
    here = let l : n - k ≡ suc (n - (k + 1)) = omega arith in rw (l, e)

    pub sought_here : t ≡ true → k ≡ index_of w (entries text places n)
    sought_here y = let z : index_of w (entries_from text places k (n - k)) ≡ 0 = here ∙ rw y in omega (arith, s.rest)

    pub sought_more : t ≡ false → Sought text places n w (k + 1)
    sought_more y =
        let z : index_of w (entries_from text places k (n - k)) ≡ suc (index_of w (entries_from text places (k + 1) (n - (k + 1)))) = here ∙ rw y in
        record { within = omega arith; rest = omega (arith, s.rest) }

  pub sought_end : n ≤ k → k ≡ index_of w (entries text places n)
  unfolding entries_from index_of
  sought_end h =
      let l : n - k ≡ 0 = omega arith in
      let z : index_of w (entries_from text places k (n - k)) ≡ 0 = rw l in omega (arith, s.rest)

-- the laws of each function
pub ruleset agent_laws = (looked_none, looked_past, looked_here, looked_more, looked_end)

pub ruleset name_laws = (sought_none, sought_here, sought_more, sought_end)
