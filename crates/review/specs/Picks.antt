-- The words of demand 3: its premise, calls of step and run one after another, and where they come to.
use Rattle.calculus.specs.Order as Order
use Rattle.parts.specs.declared.faults.Fault.TheVariants as Why
use Rattle.machine.specs.declared.outcome.Stop.TheVariants as Code
use Rattle.std.specs.Prelude.{◌-◌, ◌≤◌, ◌<◌, ◌≡◌, ◌∷◌, ◌++◌, ◌⊎◌, Ok, Err}
use Rattle.review.specs.Words.{ℕ, zero, suc, List, [], length, count, Label, Step, Steps, Normal, ◌≈◌, Conf, Book, Net, print_book, print_net, GoodBook, GoodNet, meant_net, Found, picked, rule_at, NoRoom, Stop, ended, paused, noroom, meaning, view, under, BothSound, sound-state, StepAnswer, RunAnswer}
use Rattle.review.specs.Promises.{RulesCall, NetCall, StepCall, RunCall}
use Rattle.review.specs.Rulebook.{Written}

-- THE PREMISE
-- Two accepted texts, the book and the net that they spell; the first gave the table w, and the second, over it, the state v.
pub record Accepted (rules net w v : List ℕ) : Type 0 where
  pub book : Book
  pub spelt : Net
  pub good_book : GoodBook book
  pub good_net : GoodNet book.agents spelt
  pub rules_is : rules ≡ print_book book
  pub net_is : net ≡ print_net spelt
  pub rules_read : (table : List ℕ) × RulesCall rules table (Ok tt) w
  pub net_read : (state : List ℕ) × NetCall net w state (Ok tt) v

-- A step by the rules as they are written, from C or from any other net that is C up to names, order and sides:
-- "Configurations that differ only on names are considered equivalent" (document 001).
abbrev pub WrittenStep : Book → Conf → Label → Conf → Type 0
WrittenStep b C l D = (C' : Conf) × (C ≈ C') × Step (Written b) C' l D

-- "Some sequence of Communications and Interactions takes an accepted net to where neither applies": by such steps, from the
-- net as it is written, with labels M, to N.
pub record Ends (b : Book) (n : Net) (M : List Label) (N : Conf) : Type 0 where
  pub way : Steps (WrittenStep b) (meant_net b.agents n) M N
  pub end : Normal (Step (Written b)) N

-- CALLS ONE AFTER ANOTHER
-- The rules that a step fires, by the look-up of the picked pair: one or none.
abbrev pub fires : Found → List ℕ
fires Found.none = []
fires (Found.straight i e) = i ∷ []
fires (Found.turned i e) = i ∷ []

-- Steps that are made: each of the picks is answered Ok, and the state that one call leaves is lent to the next. With the
-- numbers of the rules fired, so that their length is the interactions made, and `count i` of them those by rule number i.
pub data Picks (w : List ℕ) : (v picks fired v' : List ℕ) → Type 0 where
  none : {v : List ℕ} → Picks w v [] [] v
  more : {v v' v'' ps is : List ℕ} {p : ℕ} → StepCall w v p (Ok tt) v' → Picks w v' ps is v''
      → Picks w v (p ∷ ps) (fires (rule_at (under w) (view v) p) ++ is) v''

-- The first k picks of f.
abbrev pub first_picks : (ℕ → ℕ) → ℕ → List ℕ
first_picks f zero = []
first_picks f (suc k) = f 0 ∷ first_picks (λ i. f (suc i)) k

-- Why a run stops at a state, with so much of its budget not spent: "nothing waits"; "the head is an interaction and the budget
-- is spent"; or there is no room for the step on the head, and if that is an interaction, the budget is not spent.
abbrev pub Because : (w v : List ℕ) → ℕ → Stop → Type 0
Because w v unspent ended = (view v).waiting.used ≡ 0
Because w v unspent paused =
    (0 < (view v).waiting.used) × (length (fires (rule_at (under w) (view v) 0)) ≡ 1) × (unspent ≡ 0)
Because w v unspent noroom =
    (0 < (view v).waiting.used)
    × (length (fires (rule_at (under w) (view v) 0)) ≤ unspent)
    × NoRoom (under w) (view v) (picked (view v) 0)

-- A run from v to v' that stops for t with n interactions: "a run picks 0 again and again", to a state that looks like v'.
pub record RunSteps (w v : List ℕ) (budget : ℕ) (t : Stop) (n : ℕ) (v' : List ℕ) : Type 0 where
  pub steps : ℕ
  pub fired : List ℕ
  pub last : List ℕ
  pub picks : Picks w v (first_picks (λ i. 0) steps) fired last
  pub there : view last ≡ view v'
  pub interactions : length fired ≡ n
  pub within : n ≤ budget
  pub because : Because w v' (budget - n) t

-- What such a run answers.
abbrev pub stop_answer : Stop → ℕ → RunAnswer
stop_answer ended n = Ok (record { stop = Code.Ended; made = n })
stop_answer paused n = Ok (record { stop = Code.Paused; made = n })
stop_answer noroom n = Ok (record { stop = Code.NoRoom; made = n })

-- A call of step or run, whatever it is answered, and the rules that it fires: a refused call fires none.
pub data Call (w v : List ℕ) : (fired v' : List ℕ) → Type 0 where
  step : {v' : List ℕ} {p : ℕ} → StepCall w v p (Ok tt) v' → Call w v (fires (rule_at (under w) (view v) p)) v'
  step_refused : {v' : List ℕ} {p : ℕ} {r : StepAnswer} → StepCall w v p r v' → ¬ (r ≡ Ok tt) → Call w v [] v'
  run : {v' : List ℕ} {budget : ℕ} {t : Stop} {n : ℕ} → RunCall w v budget (stop_answer t n) v'
      → (s : RunSteps w v budget t n v') → Call w v s.fired v'
  run_refused : {v' : List ℕ} {budget : ℕ} {r : RunAnswer} → RunCall w v budget r v' → (r ≡ Err Why.Unsound) ⊎ (r ≡ Err Why.LargeBudget)
      → Call w v [] v'

-- Such calls, each lent the state that the one before left. (The other calls only read the state, or load another net.)
pub data Moves (w : List ℕ) : (v fired v' : List ℕ) → Type 0 where
  none : {v : List ℕ} → Moves w v [] v
  more : {v v' v'' is js : List ℕ} → Call w v is v' → Moves w v' js v'' → Moves w v (is ++ js) v''

-- WHERE THEY COME TO
-- What demand 3 says of calls that have fired some rules and left a state: they never make more interactions than M, by no
-- rule more; and where nothing waits they have made exactly as many, each rule as often, and the state stands for N up to
-- names, order and sides.
pub record Agreed (w fired v' : List ℕ) (M : List Label) (N : Conf) : Type 0 where
  pub sound : BothSound w v'
  pub never_more : length fired ≤ Order.interactions M
  pub no_rule_more : (i : ℕ) → count i fired ≤ Order.uses i M
  pub at_end : (view v').waiting.used ≡ 0
      → (length fired ≡ Order.interactions M)
      × ((i : ℕ) → count i fired ≡ Order.uses i M)
      × (meaning (sound-state sound) ≈ N)

-- Calls without end: the k-th has pick f k, answers r k and leaves the state vs (k + 1).
pub record Calls (w : List ℕ) (f : ℕ → ℕ) (r : ℕ → StepAnswer) (vs : ℕ → List ℕ) : Type 0 where
  pub call : (k : ℕ) → StepCall w (vs k) (f k) (r k) (vs (suc k))
  -- "steps are taken while equations wait": an equation that waits is picked
  pub picks : (k : ℕ) → 0 < (view (vs k)).waiting.used → f k < (view (vs k)).waiting.used
  -- "no step is refused for room"
  pub room : (k : ℕ) → ¬ (r k ≡ Err Why.NoRoom)

-- They come to where nothing waits, and have made as many interactions as M, each rule as often, and are at N (`at_end`).
pub record ComesToEnd (w : List ℕ) (f : ℕ → ℕ) (vs : ℕ → List ℕ) (M : List Label) (N : Conf) : Type 0 where
  pub after : ℕ
  pub nothing_waits : (view (vs after)).waiting.used ≡ 0
  pub fired : List ℕ
  pub picks : Picks w (vs 0) (first_picks f after) fired (vs after)
  pub agreed : Agreed w fired (vs after) M N

-- Of two answers, the loops, the stuck pairs and the knot told are the same, and so is the `face` line, to the byte.
pub record OneTonnage (loops₁ stuck₁ knot₁ : ℕ) (out₁ : List ℕ) (loops₂ stuck₂ knot₂ : ℕ) (out₂ : List ℕ) : Type 0 where
  pub loops : loops₁ ≡ loops₂
  pub stuck : stuck₁ ≡ stuck₂
  pub knot : knot₁ ≡ knot₂
  pub face : List ℕ
  pub rest₁ : List ℕ
  pub rest₂ : List ℕ
  pub out₁_begins : out₁ ≡ face ++ (10 ∷ rest₁)
  pub out₂_begins : out₂ ≡ face ++ (10 ∷ rest₂)

-- What demand 3 asks of two texts: they are accepted, and some sequence of Communications and Interactions takes the net to
-- where neither applies, with so many Interactions.
pub record Premise (rules net : List ℕ) (many : ℕ) : Type 0 where
  pub table : List ℕ
  pub state : List ℕ
  pub accepted : Accepted rules net table state
  pub labels : List Label
  pub end : Conf
  pub ends : Ends accepted.book accepted.spelt labels end
  pub as_many : Order.interactions labels ≡ many
  -- and calls of step on lent arrays come to where nothing waits
  pub picks : List ℕ
  pub fired : List ℕ
  pub last : List ℕ
  pub moves : Picks table state picks fired last
  pub nothing_waits : (view last).waiting.used ≡ 0
