-- Demand 2: an accepted text means exactly what it spells, each step is one row of the step table, and the printed answer
-- is the ended net with its ties followed.
use Rattle.std.specs.Prelude.{map}
use Rattle.calculus.specs.Calculus.{Collect}
use Rattle.calculus.specs.Calculus as Calculus
use Rattle.texts.proofs.Main as Texts
use Rattle.model.proofs.Kept as Model
use Rattle.answers.specs.Collected.{Collects, numbered, fresh}
use Rattle.answers.proofs.Main as Ended
use Rattle.parts.specs.declared.faults.Fault.TheVariants as Why
use Rattle.std.specs.Prelude.{◌+◌, ◌≤◌, ◌<◌, ◌≡◌, ◌↔◌, Ok, Err}
use Rattle.review.specs.Words.{ℕ, List, length, text_max, budget_max, ◌≈◌, Conf, Book, Net, print_book, print_net, table_of, machine, load, meant_net, GoodBook, GoodNet, St, Table, place, taken_out, picked, rule_at, Stop, loaded, Sound, book, meaning, Row, view, under, table_bytes, agents_in, BothSound, sound_table_lem, sound-state, agents, tied_agents, net_agents, Collected, Substituted, Knotted, RunAnswer, end_of}
use Rattle.review.specs.Promises.{RulesCall, NetCall, StepCall, RunCall, AnswerCall, Printed, net_answer}
use Rattle.review.specs.Picks.{RunSteps, stop_answer}
use Rattle.review.specs.Rulebook.{Written, ReadWritten}
use Rattle.review.specs.Loads.{LoadedSo}
use Rattle.review.proofs.Beneath.{Spelt.book-spelt, Spelt.spelt-book, Spelt.bytes-under, Spelt.bytes-agents, Spelt.bytes-code, Spelt.net-spelt-so, Spelt.spelt-net, Spelt.load_exactly, Spelt.load-means-net, Written.table_exactly}
use Rattle.review.proofs.Beneath.{Calls.step-made as made-exactly, Steps.step_sound_after, Reading.step-reads, Told.told-stop, OneRun.run_exactly_steps, Walking.run-sound_after, Reads.answer-printed, Reads.printed-answer, Collecting.collects_printed, Collecting.collects_go_on, Collecting.collects_one}

-- THE RULE TEXT
-- "An accepted text means exactly what it spells": a rule text is accepted exactly if it is a good book as it is printed,
-- and the table is then, in every byte, that of this book.
pub rules-spelt : (text table u : List ℕ) → RulesCall text table (Ok tt) u
    ↔ ((b : Book) × (text ≡ print_book b) × GoodBook b × (length text ≤ text_max) × (u ≡ table_bytes b))
rules-spelt text table u = (book-spelt text table u, λ (b, p, g, l, q). spelt-book text table u b p g l q)

-- No other book is spelt so.
pub book-once : (a b : Book) → GoodBook a → GoodBook b → print_book a ≡ print_book b → a ≡ b
book-once = Texts.book_unique

-- THE TABLE
-- The table of a book is the one with the arities of its agents, as many rules, and no rules but the written ones: R is rule
-- number i of the table exactly if the rule that is written in place i means R.
pub table-exact : (b : Book) → GoodBook b → (T : Table)
    → (T ≡ machine (table_of b))
    ↔ ((T.arities ≡ map (λ a. a.arity) b.agents)
    × (length T.rules ≡ length b.rules)
    × ((i : ℕ) (R : Calculus.Rule) → book T i R ↔ Written b i R))
table-exact = table_exactly

-- The bytes of the table of a book stand for it, and for the agents of the book;
pub table-under : (b : Book) → GoodBook b → under (table_bytes b) ≡ machine (table_of b)
table-under = bytes-under

pub table-agents : (b : Book) → GoodBook b → agents_in (table_bytes b) ≡ b.agents
table-agents = bytes-agents

-- and they are a code of these agents and of what the written rules mean: of nothing else, and of all of it.
pub table-code : (a b : Book) → GoodBook a → GoodBook b
    → (table_bytes a ≡ table_bytes b)
    ↔ ((a.agents ≡ b.agents) × ((i : ℕ) (R : Calculus.Rule) → Written a i R ↔ Written b i R))
table-code = bytes-code

-- THE NET TEXT
-- A net text over the table of a book is accepted exactly if it is a good net as it is printed, and the state is then
-- this net loaded.
pub net-spelt : (text : List ℕ) (b : Book) → GoodBook b → (v v' : List ℕ) → NetCall text (table_bytes b) v (Ok tt) v'
    ↔ ((n : Net)
    × (text ≡ print_net n)
    × GoodNet b.agents n
    × (length text ≤ text_max)
    × (view v' ≡ loaded (load b.agents n)))
net-spelt text b g v v' = (net-spelt-so text b g v v', λ (n, p, h, l, q). spelt-net text b g v v' n p h l q)

-- No other net is spelt so.
pub net-once-spelt : (b : Book) (m n : Net) → GoodNet b.agents m → GoodNet b.agents n → print_net m ≡ print_net n
    → m ≡ n
net-once-spelt b = Texts.net_unique b.agents

module _ (b : Book) (Good-book : GoodBook b) (n : Net) (good_net : GoodNet b.agents n) where
  -- "A loaded net is numbered so from 0, `face` first; its equations wait in text order and the rest is empty": a state is the
  -- net loaded exactly if it is sound and is so.
  pub load-exact : (s : St)
      → (s ≡ loaded (load b.agents n))
      ↔ (Sound (machine (table_of b)) s × LoadedSo b.agents (machine (table_of b)) n s)
  load-exact = load_exactly b Good-book n good_net

  -- It stands for the net that is written, up to names.
  pub load-means : (h : Sound (machine (table_of b)) (loaded (load b.agents n))) → meaning h ≈ meant_net b.agents n
  load-means = load-means-net b Good-book n good_net

-- The net that a state stands for does not depend on how its soundness is shown.
pub one_meaning : {w v : List ℕ} (h k : BothSound w v) → meaning (sound-state h) ≡ meaning (sound-state k)
one_meaning h k = Model.one_meaning (sound-state h) (sound-state k)

-- A STEP
-- "Each step is the one document 01 lays down": a step is made exactly if what is lent is sound and the pick is below the
-- number waiting, and some row of the step table has the picked equation in its left column and the state after it in its
-- right one.
pub step-made : {w v v' : List ℕ} {p : ℕ}
    → StepCall w v p (Ok tt) v'
    ↔ (BothSound w v
    × (p < (view v).waiting.used)
    × Row (under w) (taken_out (place (view v) p) (view v)) (picked (view v) p) (view v'))
step-made = made-exactly

-- What it leaves is sound.
pub step_sound : {w v : List ℕ} {p : ℕ} {v' : List ℕ} → StepCall w v p (Ok tt) v' → BothSound w v'
step_sound = step_sound_after

-- "Read as a net, with loops counted as x = x, it is no change, one or two Communications, or one Interaction": by the very
-- rule of the pair, as it is written.
pub step-read : (b : Book) → GoodBook b → {w v : List ℕ} {p : ℕ} {v' : List ℕ} → w ≡ table_bytes b
    → StepCall w v p (Ok tt) v' → (h : BothSound w v) (k : BothSound w v')
    → ReadWritten b (rule_at (under w) (view v) p) (meaning (sound-state h)) (meaning (sound-state k))
step-read = step-reads

-- A RUN
-- A run tells that it stopped for t with n interactions exactly if what is lent is sound, the budget is not too large, and
-- steps by pick 0 lead to the state after it with n interactions, where it has this reason to stop: nothing waits; or the
-- head is an interaction and the budget is spent; or no room.
pub run_is : {w v : List ℕ} {budget : ℕ} {v' : List ℕ} (t : Stop) (n : ℕ)
    → RunCall w v budget (stop_answer t n) v' ↔ (BothSound w v × (budget ≤ budget_max) × RunSteps w v budget t n v')
run_is t n = run_exactly_steps t n (told-stop t n)

-- What it leaves is sound.
pub run_sound : {w v : List ℕ} {budget : ℕ} {r : RunAnswer} {v' : List ℕ} → RunCall w v budget r v' → ¬ (r ≡ Err Why.Unsound)
    → BothSound w v'
run_sound = run-sound_after

-- THE ANSWER
-- "The printed answer is the ended net with its ties followed": the answer is read exactly if it is printed so.
pub answer-read : {w v o : List ℕ} {l n k m : ℕ} {o' : List ℕ}
    → AnswerCall w v o (end_of l n k m) o' ↔ Printed w v o l n k m o'
answer-read = (answer-printed, printed-answer)

-- That answer comes about by the published rules: the interface by Collects, the stuck pairs by Substitutions into them.
pub net_read : {w v : List ℕ} (h : BothSound w v) → (view v).waiting.used ≡ 0
    → (c : Collected (meaning (sound-state h))) × Substituted (meaning (sound-state h)) c
net_read h e = Ended.state-read (sound_table_lem h) (sound-state h) e

module _ {w v : List ℕ} (h : BothSound w v) (ended : (view v).waiting.used ≡ 0) {D : Conf} (way : Collects (meaning (sound-state h)) D) where
  -- However Collects are made of an ended net, where none leads on the interface is the printed one, once its names are
  -- numbered by first meeting.
  pub any_collects : ((E : Conf) → Collect D E → ⊥) → (net_answer h).face ≡ (numbered D.face fresh).shown
  any_collects = collects_printed h ended way

  -- From wherever they are, they can go on to such an end.
  pub collects_end : (E : Conf) × Collects D E × ((F : Conf) → Collect E F → ⊥)
  collects_end = collects_go_on h ended way

-- Two such ends are one net up to names, order and sides; of whatever sound state, ended or not.
pub collects_agree : {w v : List ℕ} (h : BothSound w v) {D E : Conf} → Collects (meaning (sound-state h)) D
    → ((F : Conf) → Collect D F → ⊥) → Collects (meaning (sound-state h)) E → ((F : Conf) → Collect E F → ⊥) → D ≈ E
collects_agree = collects_one

-- The knot is the agents of the ties on circles of ties and behind them;
pub net-knot : {w v : List ℕ} (h : BothSound w v) → (view v).waiting.used ≡ 0
    → (k : Knotted (meaning (sound-state h))) × ((net_answer h).knot ≡ tied_agents k.never)
net-knot h e = let k = Ended.state_knotted (sound_table_lem h) (sound-state h) e in (k.0, k.0.knot)

-- and nothing vanishes: each agent of the net is printed once, or it is in the knot.
pub all_told : {w v : List ℕ} (h : BothSound w v)
    → agents (net_answer h).face + agents (net_answer h).pairs + (net_answer h).knot
    ≡ net_agents (meaning (sound-state h))
all_told h = Ended.all_told (meaning (sound-state h))
