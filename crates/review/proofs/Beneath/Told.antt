-- Answers that are told alike are alike, and when a call has which answer.
use Rattle.std.specs.Prelude.{ℕ, ◌≡◌, refl, Bool, true, false, ◌↔◌, Ok, Err}
use Rattle.std.proofs.Common.{sym, ap, subst, ◌∙◌}
use Rattle.model.specs.Walk.{Stop, ended, paused, noroom}
use Rattle.machine.specs.Calls.{Told, made, stopped, number, step_told, run_told}
use Rattle.parts.specs.declared.faults.Fault.TheVariants as Why
use Rattle.machine.specs.declared.calls.Ran.{Ran}
use Rattle.machine.specs.declared.outcome.Stop.{Stop as Stopping}
use Rattle.machine.specs.declared.outcome.Stop.TheVariants as Code
use Rattle.machine.specs.Turns.{stop_of}
use Rattle.answer.specs.Main.{fault_of, fault_back}
use Rattle.review.specs.Answers.{StepAnswer, RunAnswer}
use Rattle.review.specs.Picks.{stop_answer}

-- What is told by f can be read back, so what is told alike is alike.
pub read_back : {A B : Type 0} {f : A → B} (g : B → A) → ((a : A) → g (f a) ≡ a) → {x y : A} → f x ≡ f y → x ≡ y
read_back g back {x} {y} e = sym (back x) ∙ ap g e ∙ back y

abbrev pub step_of : Told → StepAnswer
step_of made = Ok tt
step_of (stopped s n) = Ok tt
step_of (number n) = Err (fault_of n)

pub step_back : (r : StepAnswer) → step_of (step_told r) ≡ r
step_back (Ok u) = refl
step_back (Err f) = ap Err (fault_back f)

pub step-alike : (r q : StepAnswer) → step_told r ≡ step_told q → r ≡ q
step-alike r q e = read_back {f = step_told} step_of step_back e

-- A run that stopped, in the words of the model.
pub run_named : (r : Ran) → stop_answer (stop_of r.stop) r.made ≡ Ok r
run_named r = go r.stop
  where
    go : (s : Stopping) → stop_answer (stop_of s) r.made ≡ Ok (record { stop = s; made = r.made })
    go Code.Ended = refl
    go Code.Paused = refl
    go Code.NoRoom = refl

abbrev pub run_of : Told → RunAnswer
run_of made = Err Why.Unsound
run_of (stopped t n) = stop_answer t n
run_of (number n) = Err (fault_of n)

pub run_back : (r : RunAnswer) → run_of (run_told r) ≡ r
run_back (Ok r) = run_named r
run_back (Err f) = ap Err (fault_back f)

pub told-stop : (t : Stop) (n : ℕ) → run_told (stop_answer t n) ≡ stopped t n
told-stop ended n = refl
told-stop paused n = refl
told-stop noroom n = refl

pub run-alike : (r q : RunAnswer) → run_told r ≡ run_told q → r ≡ q
run-alike r q e = read_back {f = run_told} run_of run_back e

-- A test that says yes exactly where something holds has one answer.
pub test_once : {A : Type 0} (r q : Bool) → ((r ≡ true) ↔ A) → ((q ≡ true) ↔ A) → r ≡ q
test_once true true e f = refl
test_once false false e f = refl
test_once true false e f = sym (f.1 (e.0 refl))
test_once false true e f = e.1 (f.0 refl)

-- A call's cases, each with its answer: in each case that answer is told, and some case holds. So an answer is given
-- exactly in its case.
pub exactly : {A B : Type 0} {told : A → B} (of : B → A) → ((a : A) → of (told a) ≡ a) → (If : A → Type 0) {b : B}
    → ((a : A) → If a → b ≡ told a) → (a : A) × If a → {r : A} → told r ≡ b → (q : A) → (r ≡ q) ↔ If q
exactly of back If comes some {r} e q = (
  λ f. subst If (read_back of back (sym (e ∙ comes some.0 some.1)) ∙ f) some.1,
  λ i. read_back of back (e ∙ comes q i),
)
