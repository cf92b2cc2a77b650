-- Demand 1: "Every rule text, net text, lent state and pick gets an answer, damaged or not": for whatever is lent, some
-- answer and some bytes meet the promise, and no second ones do.
--
-- That a call ends is proved with its code: each loop, and each function that comes to call itself, has a number that falls.
--
--   read_rules, read_net      of lines: the bytes left of the text; of fields, words and records: those left. The term reader
--                             and the argument-list reader: the levels left of 64, and at one level the arguments left
--   table_sound, both_sound   the places left of an array; in the walks over cells, the cells not yet met
--   step                      after both_sound: what is left of the list that waits and of the rule's equations, cells and
--                             new names, and the places left where a free one is looked for
--   run                       after both_sound: the steps left of the number that suffices for its budget
--   read_answer               after both_sound: the cells not yet met, the stuck pairs left, the letters left of a symbol
--   evaluate                  after these calls: the bytes left of a line, and a number without its last digit
use Rattle.parts.specs.Limits.{table_size}
use Rattle.model.specs.State.{zeros}
use Rattle.std.specs.Prelude.{◌≡◌, ◌↔◌}
use Rattle.review.specs.Words.{ℕ, Bool, List, state_size, view}
use Rattle.review.specs.Promises.{StateArray, RulesCall, NetCall, StepCall, RunCall, AnswerCall, EvaluateCall, TableTest, BothTest, EmptyState, EmptyTable, One, Any}
use Rattle.review.proofs.Beneath.Told as Told
use Rattle.review.proofs.Beneath.Exist as Exist

-- A promise speaks of a state's view: a state that looks alike is alike in every word.
pub same_state : {v w : List ℕ} → StateArray v → StateArray w → view v ≡ view w → v ≡ w
same_state = Exist.same_state

pub rules-answered : (text table : List ℕ) → One Any (RulesCall text table)
rules-answered = Exist.rules

pub net-answered : (text w v : List ℕ) → One StateArray (NetCall text w v)
net-answered = Exist.net

pub step-answered : (w v : List ℕ) (p : ℕ) → One StateArray (StepCall w v p)
step-answered = Exist.step

pub run-answered : (w v : List ℕ) (budget : ℕ) → One StateArray (RunCall w v budget)
run-answered = Exist.run

pub answer-answered : (w v o : List ℕ) → One Any (AnswerCall w v o)
answer-answered = Exist.answer

pub evaluate_answered : (rules net o : List ℕ) → One Any (EvaluateCall rules net o)
evaluate_answered = Exist.evaluate

-- table_sound and both_sound; what they are lent they only read.
pub table_test_answered : (w : List ℕ) → (r : Bool) × TableTest w r
table_test_answered = Exist.table_test

pub both_test_answered : (w v : List ℕ) → (r : Bool) × BothTest w v r
both_test_answered = Exist.both_test

pub table_test_once : {w : List ℕ} {r q : Bool} → TableTest w r → TableTest w q → r ≡ q
table_test_once {r = r} {q = q} e f = Told.test_once r q e.promised f.promised

pub both_test_once : {w v : List ℕ} {r q : Bool} → BothTest w v r → BothTest w v q → r ≡ q
both_test_once {r = r} {q = q} e f = Told.test_once r q e.promised f.promised

-- What the two constructors answer is zero in every word and in every byte.
pub empty-state_is : {r : List ℕ} → StateArray r → EmptyState r ↔ (r ≡ zeros state_size)
empty-state_is = Exist.empty-state

pub empty-table_is : {r : List ℕ} → EmptyTable r ↔ (r ≡ zeros table_size)
empty-table_is = Exist.empty-table
