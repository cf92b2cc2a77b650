-- What each public call promises, word for word: one relation between what it was lent, its answer and what it leaves.
use Rattle.answers.specs.Answer.{Answer}
use Rattle.std.specs.Prelude.{◌≤◌, ◌≡◌, ◌++◌, ◌↔◌}
use Rattle.review.specs.Words.{ℕ, Bool, true, List, length, drop, sets, state_size, view, Words, empty, meaning, answer, answer_text, agents_in, bytes_of, no_table, Given, BothSound, sound-state, leaves, rules_read, told, net_call, end_told, given, called, evaluated, out, step_told, step_called, run_told, run_called, TextAnswer, StepAnswer, RunAnswer, EndAnswer}

-- A lent state: an array of that many words of 16 bits. Every array that a caller can lend is one.
pub record StateArray (v : List ℕ) : Type 0 where
  pub long : length v ≡ state_size
  pub words : Words v

-- read_rules, lent a text and a table, answers r and leaves the table u.
pub record RulesCall (text table : List ℕ) (r : TextAnswer) (u : List ℕ) : Type 0 where
  pub promised : leaves r u ≡ rules_read text table

-- read_net, lent a text, a table w and a state v, answers r and leaves the state v'.
pub record NetCall (text w v : List ℕ) (r : TextAnswer) (v' : List ℕ) : Type 0 where
  pub promised : told r (view v') ≡ net_call text w (view v)

-- step, lent a table w and a state v, with a pick, answers r and leaves the state v'.
pub record StepCall (w v : List ℕ) (pick : ℕ) (r : StepAnswer) (v' : List ℕ) : Type 0 where
  pub promised : out (step_told r) (view v') ≡ step_called w v pick

-- run, the same with a budget.
pub record RunCall (w v : List ℕ) (budget : ℕ) (r : RunAnswer) (v' : List ℕ) : Type 0 where
  pub promised : out (run_told r) (view v') ≡ run_called w v budget

-- read_answer, lent a table w, a state v and an output o, answers g and leaves the output o'.
pub record AnswerCall (w v o : List ℕ) (g : EndAnswer) (o' : List ℕ) : Type 0 where
  pub promised : given (end_told g) o' ≡ called w v o

-- evaluate, lent two texts and an output o, answers r and leaves the output o'.
pub record EvaluateCall (rules net o : List ℕ) (r : ℕ) (o' : List ℕ) : Type 0 where
  pub out : o' ≡ sets o 0 (evaluated rules net)
  pub long : r ≡ length (evaluated rules net)

-- table_sound, lent a table, answers r. (`Given`: some rule text would give these bytes, if its length had no limit.)
pub record TableTest (w : List ℕ) (r : Bool) : Type 0 where
  pub promised : (r ≡ true) ↔ Given w

-- both_sound, lent a table and a state, answers r.
pub record BothTest (w v : List ℕ) (r : Bool) : Type 0 where
  pub promised : (r ≡ true) ↔ BothSound w v

-- The constructors of an empty state and of an empty table answer arrays.
pub record EmptyState (r : List ℕ) : Type 0 where
  pub promised : view r ≡ empty

pub record EmptyTable (r : List ℕ) : Type 0 where
  pub promised : r ≡ bytes_of no_table

-- One answer, and one thing that it leaves, of those that can be lent, meet the promise of a call.
pub record One {A : Type 0} (Lent : List ℕ → Type 0) (Call : A → List ℕ → Type 0) : Type 0 where
  pub answer : A
  pub leaves : List ℕ
  pub meets : Call answer leaves
  pub once : (r q : A) (u v : List ℕ) → Lent u → Lent v → Call r u → Call q v → (r ≡ q) × (u ≡ v)

-- Whatever bytes.
abbrev pub Any : List ℕ → Type 0
Any u = Unit {0}

-- What the reader of the end is to print of a sound state: the answer of the net that it stands for, and its lines. (By
-- `one_meaning` in Demand2 they do not depend on how the soundness is shown.)
abbrev pub net_answer : {w v : List ℕ} → BothSound w v → Answer
net_answer h = answer (meaning (sound-state h))

abbrev pub lines_of_net : {w v : List ℕ} → BothSound w v → List ℕ
lines_of_net {w} h = answer_text (agents_in w) (net_answer h)

-- What a call that reads the end and is not refused has made of the lent state: nothing waits in it; the first bytes of
-- the output are the lines of the answer of its net, and the others stand; and their length, the loops, the stuck pairs
-- and the knot are told.
pub record Printed (w v o : List ℕ) (long loops stuck knot : ℕ) (o' : List ℕ) : Type 0 where
  pub sound : BothSound w v
  pub nothing_waits : (view v).waiting.used ≡ 0
  pub fits : length (lines_of_net sound) ≤ length o
  pub out : o' ≡ lines_of_net sound ++ drop (length (lines_of_net sound)) o
  pub is_long : long ≡ length (lines_of_net sound)
  pub is_loops : loops ≡ (net_answer sound).loops
  pub is_stuck : stuck ≡ (net_answer sound).stuck
  pub is_knot : knot ≡ (net_answer sound).knot
