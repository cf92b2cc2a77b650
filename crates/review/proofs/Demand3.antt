-- Demand 3: whichever waiting equation is picked at each step, an accepted net ends after the same interactions, at the
-- same net; so one ship can't get two tonnages.
use Rattle.calculus.specs.Order as Order
use Rattle.std.specs.Prelude.{◌+◌, ◌*◌, ◌≤◌, ◌≡◌, Ok}
use Rattle.review.specs.Words.{ℕ, List, length, count, Label, ◌≈◌, Conf, used, over, right, Stop, meaning, view, under, BothSound, sound-state, StepAnswer, RunAnswer, end_of}
use Rattle.review.specs.Promises.{RulesCall, NetCall, StepCall, RunCall, AnswerCall}
use Rattle.review.proofs.Demand2.{answer-read}
use Rattle.review.specs.Picks.{Accepted, Ends, stop_answer, Call, Moves, Agreed, Calls, ComesToEnd, OneTonnage}
use Rattle.review.proofs.Beneath.{Started.both-spelt, Started.start_sound, Walking.step_call, Walking.run_call, Walking.moves-sound, Ways.moves-agree, Ways.cells, Ways.comes_to_end, Ways.run_agrees, Ways.ways_agree, Ways.tonnage}

-- Two texts that the two readers accept, one after the other, spell a book and a net.
pub two_texts : (rules table w net state v : List ℕ) → RulesCall rules table (Ok tt) w
    → NetCall net w state (Ok tt) v → Accepted rules net w v
two_texts = both-spelt

-- Whatever is answered, a call of step and a call of run is one of those that demand 3 speaks of.
pub any-step-call : {w v : List ℕ} {p : ℕ} {r : StepAnswer} {v' : List ℕ} → StepCall w v p r v' → (is : List ℕ) × Call w v is v'
any-step-call = step_call

pub any-run-call : {w v : List ℕ} {budget : ℕ} {r : RunAnswer} {v' : List ℕ} → RunCall w v budget r v'
    → (is : List ℕ) × Call w v is v'
any-run-call = run_call

-- What the two readers leave is sound,
pub accepted-sound : {rules net w v : List ℕ} → Accepted rules net w v → BothSound w v
accepted-sound = start_sound

-- and stays so by any calls.
pub picks-sound : {w v is v' : List ℕ} → BothSound w v → Moves w v is v' → BothSound w v'
picks-sound = moves-sound

module _ {rules net w v : List ℕ} (a : Accepted rules net w v) where
  -- "After any steps from a load, cells in use equal those loaded plus, over the rules, times used multiplied by (cells on
  -- its right side less 2)": what is taken off stands on the other side, so that no number is below 0.
  pub cells_told : {is v' : List ℕ} → Moves w v is v'
      → used (view v').symbols + over (under w) (λ i. count i is * 2)
      ≡ used (view v).symbols + over (under w) (λ i. count i is * right (under w) i)
  cells_told = cells (accepted-sound a)

  module _ {M : List Label} {N : Conf} (ends : Ends a.book a.spelt M N) where
    -- "If some sequence of Communications and Interactions takes an accepted net to where neither applies, with N
    -- Interactions, then whichever waiting equation is picked at each step the machine never exceeds N"; where nothing
    -- waits, it has made exactly N, "each rule used equally often", and is "at the same net up to names, order and sides".
    pub any-picks : {is v' : List ℕ} → Moves w v is v' → Agreed w is v' M N
    any-picks = moves-agree a ends

    -- "If no step is refused for room and steps are taken while equations wait, it ends after exactly N, each rule used
    -- equally often, at the same net up to names, order and sides".
    pub it-ends : {f : ℕ → ℕ} {r : ℕ → StepAnswer} (vs : ℕ → List ℕ) → vs 0 ≡ v → Calls w f r vs → ComesToEnd w f vs M N
    it-ends = comes_to_end a ends

    -- A run never exceeds N either, and where it ended it has made exactly N, at the same net.
    pub any-run : {budget : ℕ} {v' : List ℕ} (t : Stop) (n : ℕ) → RunCall w v budget (stop_answer t n) v'
        → (n ≤ Order.interactions M)
        × (h : BothSound w v')
        × ((view v').waiting.used ≡ 0 → (n ≡ Order.interactions M) × (meaning (sound-state h) ≈ N))
    any-run = run_agrees a ends

  -- The same with no premise about the calculus: of two sequences of calls from one accepted net, of which the first comes to
  -- where nothing waits, the second makes no more interactions; and where it comes there too, it has made as many, each rule
  -- as often, and is at the same net.
  pub two_ways : {is js v₁ v₂ : List ℕ} → Moves w v is v₁ → (view v₁).waiting.used ≡ 0 → Moves w v js v₂
      → (length js ≤ length is)
      × (h₁ : BothSound w v₁)
      × (h₂ : BothSound w v₂)
      × ((view v₂).waiting.used ≡ 0
      → (length js ≡ length is)
      × ((i : ℕ) → count i js ≡ count i is)
      × (meaning (sound-state h₂) ≈ meaning (sound-state h₁)))
  two_ways = ways_agree (accepted-sound a)

  -- CAN ONE SHIP GET TWO TONNAGES? No: from one accepted net, whatever was picked, the loops, the stuck pairs and the knot
  -- that are told at the end are the same, and so is the `face` line, to the byte. The `eq` lines can differ: the order of
  -- the stuck pairs, and with it the numbers of the names first met in them, depend on the order of steps.
  pub one_tonnage : {is js v₁ v₂ : List ℕ} → Moves w v is v₁ → Moves w v js v₂
      → {o₁ o₂ out₁ out₂ : List ℕ} {l₁ n₁ k₁ m₁ l₂ n₂ k₂ m₂ : ℕ}
      → AnswerCall w v₁ o₁ (end_of l₁ n₁ k₁ m₁) out₁ → AnswerCall w v₂ o₂ (end_of l₂ n₂ k₂ m₂) out₂
      → OneTonnage n₁ k₁ m₁ out₁ n₂ k₂ m₂ out₂
  one_tonnage m n c d = tonnage (accepted-sound a) m n (answer-read.0 c) (answer-read.0 d)
