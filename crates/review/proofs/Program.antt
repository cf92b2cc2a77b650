-- What `evaluate` prints of two texts: the other calls, made one after another, whatever table and state are lent to them,
-- "with budget 100,000". `netrun` adds nothing but the files.
use Rattle.parts.specs.declared.faults.Fault.TheVariants as Why
use Rattle.model.specs.Walk.{ended, paused, noroom}
use Rattle.report.specs.Firsts.{word_paused, word_noroom, refusal}
use Rattle.report.specs.Firsts as First
use Rattle.evaluation.specs.Evaluated.{budget, output_max, evaluated}
use Rattle.std.specs.Prelude.{refl, take}
use Rattle.std.specs.Prelude.{◌≤◌, ◌≡◌, ◌++◌, Ok, Err}
use Rattle.review.specs.Words.{ℕ, List, length, word_rules, word_net, view, BothSound, Fault, fault_number, refused_on, RunAnswer, EndAnswer, end_of}
use Rattle.review.specs.Promises.{RulesCall, NetCall, RunCall, AnswerCall, lines_of_net}
use Rattle.review.specs.Picks.{stop_answer}
use Rattle.review.proofs.Beneath.{Runs.rules-refused, Runs.net-refused, Runs.run-made, Runs.stops, Runs.end_read, Runs.answers, Short.lines-short}

-- The lines of an answer always fit into "a 65,536 byte output".
pub answer-fits : {w v : List ℕ} (h : BothSound w v) → (view v).waiting.used ≡ 0 → length (lines_of_net h) ≤ output_max
answer-fits = lines-short

-- "A refusal prints `refused`, `rules` or `net` [..], number, line [..], and no other line": of the rule text, and then the net
-- text is not looked at;
pub rules-refused-printed : {rules t u : List ℕ} {f : Fault} {j : ℕ} (net : List ℕ) → RulesCall rules t (refused_on f j) u
    → evaluated rules net ≡ refusal word_rules (fault_number f) j
rules-refused-printed = rules-refused

module _ {rules t w : List ℕ} (net : List ℕ) (read : RulesCall rules t (Ok tt) w) where
  -- or of the net text.
  pub net-refused-printed : {s v : List ℕ} {f : Fault} {j : ℕ} → NetCall net w s (refused_on f j) v
      → evaluated rules net ≡ refusal word_net (fault_number f) j
  net-refused-printed = net-refused net read

  module _ {s v : List ℕ} (loaded : NetCall net w s (Ok tt) v) where
    -- The run is not refused.
    pub run_on : {r : RunAnswer} {v' : List ℕ} → RunCall w v budget r v' → (f : Fault) → ¬ (r ≡ Err f)
    run_on = run-made net read loaded

    -- "For paused and noroom only the first line, with its first four fields."
    pub paused-printed : {n : ℕ} {v' : List ℕ} → RunCall w v budget (stop_answer paused n) v'
        → evaluated rules net ≡ First.stopped word_paused n (view v').loops
    paused-printed c = stops net read loaded c paused _ refl

    pub noroom-printed : {n : ℕ} {v' : List ℕ} → RunCall w v budget (stop_answer noroom n) v'
        → evaluated rules net ≡ First.stopped word_noroom n (view v').loops
    noroom-printed c = stops net read loaded c noroom _ refl

    module _ {n : ℕ} {v' : List ℕ} (ended : RunCall w v budget (stop_answer ended n) v') {o o' : List ℕ} where
      -- The answer is not refused, since it fits.
      pub answer_on : {g : EndAnswer} → output_max ≤ length o → AnswerCall w v' o g o'
          → (f : Fault) → ¬ (g ≡ Err f)
      answer_on = end_read net read loaded ended

      -- "First line: `ran`, word, interactions, loops, stuck pairs, knot cells. Then `face` with its terms, then one `eq` for each
      -- stuck pair."
      pub end_printed : {l loops stuck knot : ℕ} → AnswerCall w v' o (end_of l loops stuck knot) o'
          → evaluated rules net ≡ First.ended n loops stuck knot ++ take l o'
      end_printed = answers net read loaded ended
