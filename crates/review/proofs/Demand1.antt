-- Demand 1: every call gets an answer, each refusal exactly under its condition, and a refused call changes no byte.
--
-- Where each refusal number of document 01 is told. A number of a text is given by the constructor named here, on the page
-- crates/texts/specs/Refused.antt: `rules-refused` and `net-refused` (Demand1Texts) say that it is given so and not else. The
-- other numbers have their theorems below.
--
--    1  text longer than the size                           too_long
--    2  byte not allowed, or last line unended              two
--    3  wrong, missing or misplaced record; ..              three, absent, absent_face
--    4  identifier or term misspelt, ..                     four
--    5  .. passes a size above                              five
--    6  symbol declared twice                               six
--    7  argument count differs from arity, or ..            seven
--    8  a left field ..; a name the wrong number of times   eight, loose_name
--    9  the pair already has a rule                         nine
--   10  a symbol's rule with itself is one-sided            ten
--   11  a header count differs from the records found       miscounted
--   12  pick at or past the number waiting                  step_12
--   13  no room                                             step_13
--   14  answer asked for while equations wait               answer_14
--   15  answer longer than the output buffer                answer_15
--   16  rule table or state lent is not sound               step_16    run_16    answer_16    net_16 (table)
--   17  budget above the size                               run_17
--
-- That each call has an answer, and only one, stands in Answered.
use Rattle.parts.specs.declared.faults.Fault.TheVariants as Why
use Rattle.std.specs.Prelude.{◌≤◌, ◌<◌, ◌≡◌, ◌↔◌, ◌⊎◌, Err}
use Rattle.review.specs.Words.{ℕ, List, Fault, length, budget_max, picked, NoRoom, view, under, BothSound}
use Rattle.review.specs.Promises.{StateArray, StepCall, RunCall, AnswerCall, lines_of_net}
use Rattle.review.proofs.Beneath.Calls.{step_unsound, step_no_pick, step_no_room, run_unsound, run_too_much, answer_unsound, answer-waits, answer-long}
use Rattle.review.proofs.Beneath.Calls as Calls

-- STEP. "16 first, then [..] 12, [..] 13". "A refused call changes no byte it was lent." (`step-made` in Demand2 says when a
-- step is made, and what it is.)
module _ {w v v' : List ℕ} {p : ℕ} (lent : StateArray v) (after : StateArray v') where
  -- 16: "rule table or state lent is not sound". ("A sound table is one that some rule text would give if its length had no
  -- limit": it is that of a good book, and `rules-spelt` in Demand2 says that a rule text gives just such a table.)
  pub step_16 : StepCall w v p (Err Why.Unsound) v' ↔ ((¬ BothSound w v) × (v' ≡ v))
  step_16 = step_unsound lent after

  -- 12: "pick at or past the number waiting".
  pub step_12 : StepCall w v p (Err Why.NoPick) v' ↔ (BothSound w v × ((view v).waiting.used ≤ p) × (v' ≡ v))
  step_12 = step_no_pick lent after

  -- 13: "no room", "decided on the picked equation alone": `NoRoom` has document 01's three cases of an interaction, and
  -- the loop. "It is given in no other case."
  pub step_13 : StepCall w v p (Err Why.NoRoom) v'
      ↔ (BothSound w v × (p < (view v).waiting.used) × NoRoom (under w) (view v) (picked (view v) p) × (v' ≡ v))
  step_13 = step_no_room lent after

-- RUN. "16 first, then 17". ("A stopped run is not a refused call": `run_is` in Demand2.)
module _ {w v v' : List ℕ} {budget : ℕ} (lent : StateArray v) (after : StateArray v') where
  -- 16: "rule table or state lent is not sound".
  pub run_16 : RunCall w v budget (Err Why.Unsound) v' ↔ ((¬ BothSound w v) × (v' ≡ v))
  run_16 = run_unsound lent after

  -- 17: "budget above 1,000,000".
  pub run_17 : RunCall w v budget (Err Why.LargeBudget) v' ↔ (BothSound w v × (budget_max < budget) × (v' ≡ v))
  run_17 = run_too_much lent after

-- READ_ANSWER. "16 first, then [..] 14, [..] 15". Table and state are only read. (`answer-read` in Demand2 says when the
-- answer is read, and what it is.)
module _ {w v o o' : List ℕ} where
  -- 16: "rule table or state lent is not sound".
  pub answer_16 : AnswerCall w v o (Err Why.Unsound) o' ↔ ((¬ BothSound w v) × (o' ≡ o))
  answer_16 = answer_unsound

  -- 14: "answer asked for while equations wait".
  pub answer_14 : AnswerCall w v o (Err Why.Waits) o' ↔ (BothSound w v × (0 < (view v).waiting.used) × (o' ≡ o))
  answer_14 = answer-waits

  -- 15: "answer longer than the output buffer": the lines are those of the net that the state stands for, however its
  -- soundness is shown (`one_meaning`, Demand2).
  pub answer_15 : AnswerCall w v o (Err Why.LongAnswer) o'
      ↔ ((h : BothSound w v) × ((view v).waiting.used ≡ 0) × (length o < length (lines_of_net h)) × (o' ≡ o))
  answer_15 = answer-long

-- And no other refusal: what these calls refuse, they refuse by one of the numbers above.
pub step_no_other : {w v v' : List ℕ} {p : ℕ} {f : Fault} → StepCall w v p (Err f) v'
    → (f ≡ Why.Unsound) ⊎ ((f ≡ Why.NoPick) ⊎ (f ≡ Why.NoRoom))
step_no_other = Calls.step_no_other

pub run_no_other : {w v v' : List ℕ} {budget : ℕ} {f : Fault} → RunCall w v budget (Err f) v'
    → (f ≡ Why.Unsound) ⊎ (f ≡ Why.LargeBudget)
run_no_other = Calls.run_no_other

pub answer_no_other : {w v o o' : List ℕ} {f : Fault} → AnswerCall w v o (Err f) o'
    → (f ≡ Why.Unsound) ⊎ ((f ≡ Why.Waits) ⊎ (f ≡ Why.LongAnswer))
answer_no_other = Calls.answer_no_other
