-- Steps by any picks, one after the other: what is counted along them, where the calculus ends, and why a run stops.
use Rattle.std.specs.Prelude.{◌≡◌, List, ℕ, zero, suc, ◌+◌, ◌-◌, ◌≤◌, ◌<◌, length}
use Rattle.calculus.specs.Calculus.{Label, Step}
use Rattle.calculus.specs.Descent.{Steps, Normal}
use Rattle.calculus.specs.Terms.{Conf, δ}
use Rattle.model.specs.State.{St}
use Rattle.model.specs.Table.{Table, Found, none, straight, turned, entry}
use Rattle.model.specs.Step.{moved, refused, rule_at}
use Rattle.model.specs.Stepped.{stepped}
use Rattle.model.specs.Sound.{book}

-- A step after another, each by a pick, none of them refused.
pub data Walk (T : Table) : St → St → Type 0 where
  stay : {s : St} → Walk T s s
  take : {s s' s'' : St} (p : ℕ) → stepped T s p ≡ moved s' → Walk T s' s'' → Walk T s s''

-- The interactions that a picked equation makes, by the rule that it fires: one or none; those by rule number i; and
-- how many interactions a walk has.
abbrev pub one_made : Found → ℕ
one_made none = 0
one_made (straight i e) = 1
one_made (turned i e) = 1

abbrev pub one_use : ℕ → Found → ℕ
one_use i none = 0
one_use i (straight j e) = δ i j
one_use i (turned j e) = δ i j

unfoldable pub made_in : {T : Table} {s s' : St} → Walk T s s' → ℕ
made_in stay = 0
made_in {T} (take {s = s} p e w) = one_made (rule_at T s p) + made_in w

-- The sum of f over the numbers below n.
abbrev pub below : ℕ → (ℕ → ℕ) → ℕ
below zero f = 0
below (suc n) f = below n f + f n

-- A sum over the rules of a table, by their numbers; and the cells on the right side of a rule.
abbrev pub over : Table → (ℕ → ℕ) → ℕ
over T f = below (length T.rules) f

abbrev pub right : Table → ℕ → ℕ
right T i = length (entry T i).cells

-- The net C ends by the calculus: Communications and Interactions with labels M take it to N, where neither applies.
pub record EndsAt (T : Table) (C : Conf) (M : List Label) (N : Conf) : Type 0 where
  pub way : Steps (Step (book T)) C M N
  pub end : Normal (Step (book T)) N

-- "It answers ended (nothing waits), paused (the head is an interaction and the budget is spent) or noroom, with the
-- interactions made."
pub data Stop : Type 0 where
  ended : Stop
  paused : Stop
  noroom : Stop

pub record Ran : Type 0 where
  pub stop : Stop
  pub made : ℕ
  pub state : St

-- All picks of a walk are 0.
abbrev pub AtHead : {T : Table} {s s' : St} → Walk T s s' → Type 0
AtHead stay = Unit {0}
AtHead (take p e w) = (p ≡ 0) × AtHead w

-- Why a run stops at s, with a budget left: nothing waits; the head is an interaction and the budget is spent; or
-- there is no room for the step on the head, and if that is an interaction, the budget is not spent: "at the head,
-- paused comes before noroom".
abbrev pub Because : Table → ℕ → St → Stop → Type 0
Because T left s ended = s.waiting.used ≡ 0
Because T left s paused = (0 < s.waiting.used) × (one_made (rule_at T s 0) ≡ 1) × (left ≡ 0)
Because T left s noroom = (0 < s.waiting.used) × (one_made (rule_at T s 0) ≤ left) × (stepped T s 0 ≡ refused 13)

-- A stopped run: "picks 0 again and again", "the state is that after the last step made", its interactions are those of
-- the steps made, and it stopped for its reason.
pub record Stopped (T : Table) (budget : ℕ) (s : St) (r : Ran) : Type 0 where
  pub walk : Walk T s r.state
  pub at_head : AtHead walk
  pub made : r.made ≡ made_in walk
  pub within : r.made ≤ budget
  pub because : Because T (budget - r.made) r.state r.stop
