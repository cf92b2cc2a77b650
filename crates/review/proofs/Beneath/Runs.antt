-- What is printed of two texts, by the calls that are made of them one after another.
use Rattle.std.specs.Prelude.{ℕ, ◌≤◌, ◌≡◌, refl, List, ◌++◌, length, take, Ok, Err}
use Rattle.std.proofs.Common.{sym, subst, ◌∙◌, arith, le-leb}
use Rattle.std.proofs.Math.Path.{ap}
use Rattle.std.proofs.Math.Seq.{take-append_seam}
use Rattle.texts.specs.Books.{Agent, Book, Net, word_rules, word_net}
use Rattle.texts.specs.Answers.{accepted}
use Rattle.texts.specs.Coded.{table_of, machine, load}
use Rattle.texts.specs.NetText.{read_net}
use Rattle.texts.specs.RuleText.{read_rules}
use Rattle.texts.specs.Refused.{NetRefused}
use Rattle.texts.proofs.Main as Texts
use Rattle.model.specs.Load.{loaded}
use Rattle.model.specs.Run.{ran}
use Rattle.model.specs.Sound.{Sound}
use Rattle.model.specs.Walk.{Stop, ended}
use Rattle.table.specs.Layout.{agents_in}
use Rattle.state.specs.Layout.{view}
use Rattle.sound.specs.Lent.{under}
use Rattle.lent.specs.Both.{BothSound, under_is, sound_table_lem, sound-state}
use Rattle.answers.specs.Answer.{Answer}
use Rattle.answers.specs.Text.{answer_text}
use Rattle.answers.proofs.Main.{state-printed}
use Rattle.parts.specs.declared.faults.Fault.TheVariants as Why
use Rattle.rules.proofs.Main as ReadRules
use Rattle.nets.specs.Main as ReadNets
use Rattle.machine.specs.Calls as Machine
use Rattle.parts.specs.Faults.{fault_number}
use Rattle.parts.specs.declared.faults.Fault.{Fault}
use Rattle.review.specs.Answers.{refused_on, RunAnswer, EndAnswer, end_of}
use Rattle.review.specs.Picks.{stop_answer}
use Rattle.report.specs.Firsts.{refusal}
use Rattle.report.specs.Firsts as First
use Rattle.evaluation.specs.Evaluated.{budget, output_max, ending, stopping, running, net_printed, rules_printed, evaluated}
use Rattle.review.specs.Promises.{RulesCall, NetCall, RunCall, AnswerCall, net_answer}
use Rattle.review.proofs.Beneath.Spelt.{book-spelt, net-spelt-so, bytes-agents}
use Rattle.review.proofs.Beneath.Steps.{RunIf, run_exactly, run-went}
use Rattle.review.proofs.Beneath.Made.{run-steps}
use Rattle.review.proofs.Beneath.Walking.{run-sound_after}
use Rattle.review.proofs.Beneath.LoadedSo.{loaded-sound}
use Rattle.review.proofs.Beneath.Short.{lines-short}
use Rattle.review.proofs.Beneath.Reads.{AnswerIf, answer_exactly, answer-printed}

pub rules-refused : {rules t u : List ℕ} {f : Fault} {j : ℕ} (net : List ℕ) → RulesCall rules t (refused_on f j) u
    → evaluated rules net ≡ refusal word_rules (fault_number f) j
unfolding evaluated rules_printed
rules-refused {rules} {t} {u} {f} {j} net c =
    rw ((Texts.rule-text-refused rules (fault_number f) j).1 ((ReadRules.refused_exactly rules t u f j).0 c.promised).0)

-- The run of the loaded net, over the lent table and state.
run_of : (rules net w v : List ℕ) (b : Book) (n : Net) → read_rules rules ≡ accepted b → read_net b.agents net ≡ accepted n
    → agents_in w ≡ b.agents → under w ≡ machine (table_of b) → view v ≡ loaded (load b.agents n)
    → evaluated rules net ≡ running (agents_in w) (under w) (ran (under w) budget (view v))
unfolding evaluated rules_printed net_printed
run_of rules net w v b n e f a t s = rw (e, f, a, t, s)

-- An answer that was read, of which the lines stand first in the output.
read_lines : (ags : List Agent) (A : Answer) (n : ℕ) (rest : List ℕ) {l loops stuck knot : ℕ} {o' : List ℕ}
    → length (answer_text ags A) ≤ output_max → l ≡ length (answer_text ags A) → loops ≡ A.loops → stuck ≡ A.stuck
    → knot ≡ A.knot → o' ≡ answer_text ags A ++ rest
    → ending ags n A ≡ First.ended n loops stuck knot ++ take l o'
unfolding ending
read_lines ags A n rest fits long loops stuck knot out =
    rw (le-leb (length (answer_text ags A)) output_max fits, long, loops, stuck, knot, out, take-append_seam)

module _ {rules t w : List ℕ} (net : List ℕ) (read : RulesCall rules t (Ok tt) w) where
  pub net-refused : {s v : List ℕ} {f : Fault} {j : ℕ} → NetCall net w s (refused_on f j) v
      → evaluated rules net ≡ refusal word_net (fault_number f) j
  unfolding evaluated rules_printed net_printed
  net-refused {s} {v} {f} {j} c =
      let n = fault_number f in
      let (b, p, g, l, q) = book-spelt rules t w read in
      let k = ReadNets.refused_keeps net w (view s) (view v) n j (sym c.promised) in
      let r = (ReadNets.refused-exact net w (view s) (b, g, q) n j).0 (rw k at (sym c.promised)) in
      let a : agents_in w ≡ b.agents = ap agents_in q ∙ bytes-agents b g in
      rw (
        (Texts.rule-text-accepted rules b).1 (p, g, l),
        (Texts.net-text-refused b.agents net n j).1 (subst (λ x. NetRefused x net n j) a r),
      )

  module _ {s v : List ℕ} (load : NetCall net w s (Ok tt) v) where
    runs : evaluated rules net ≡ running (agents_in w) (under w) (ran (under w) budget (view v))
    runs =
        let (b, p, g, l, q) = book-spelt rules t w read in
        let (n, r, k, m, z) = net-spelt-so net b g s v (subst (λ u. NetCall net u s (Ok tt) v) q load) in
        run_of
        rules
        net
        w
        v
        b
        n
        ((Texts.rule-text-accepted rules b).1 (p, g, l))
        ((Texts.net-text-accepted b.agents net n).1 (r, k, m))
        (ap agents_in q ∙ bytes-agents b g)
        (under_is w b g q)
        z

    loaded-so : BothSound w v
    loaded-so =
        let (b, p, g, l, q) = book-spelt rules t w read in
        let (n, r, k, m, z) = net-spelt-so net b g s v (subst (λ u. NetCall net u s (Ok tt) v) q load) in
        record { book = b; good = g; given = q; sound = subst (Sound (machine (table_of b))) (sym z) (loaded-sound b g n k) }

    pub run-made : {r : RunAnswer} {v' : List ℕ} → RunCall w v budget r v' → (f : Fault) → ¬ (r ≡ Err f)
    run-made c f e = go ((run_exactly c (Err f)).0 e)
      where
        go : {f : Fault} → RunIf w v budget (Err f) → ⊥
        go (RunIf.unsound h) = h loaded-so
        go (RunIf.too_much (h, o)) = absurd (omega arith)

    pub stops : {r : RunAnswer} {v' : List ℕ} → RunCall w v budget r v' → (x : Stop) (n : ℕ)
        → Machine.run_told r ≡ Machine.stopped x n
        → evaluated rules net ≡ stopping (agents_in w) (under w) x n (view v')
    unfolding running
    stops c x n e = let k = run-went c x n e in runs ∙ rw (k.1, k.2, k.3)

    module _ {n : ℕ} {v' : List ℕ} (run : RunCall w v budget (stop_answer ended n) v') where
      ends : (h : BothSound w v') → (view v').waiting.used ≡ 0
          → evaluated rules net ≡ ending (agents_in w) n (net_answer h)
      ends h e = stops run ended n refl ∙ ap (ending (agents_in w) n) (state-printed (sound_table_lem h) (sound-state h) e)

      pub end_read : {o o' : List ℕ} {g : EndAnswer} → output_max ≤ length o → AnswerCall w v' o g o'
          → (f : Fault) → ¬ (g ≡ Err f)
      end_read {o} size c f e = go ((answer_exactly c (Err f)).0 e)
        where
          go : {f : Fault} → AnswerIf w v' o (Err f) → ⊥
          go (AnswerIf.unsound h) = h (run-sound_after run (run-made run Why.Unsound))
          go (AnswerIf.waits (h, b)) =
              let z : (view v').waiting.used ≡ 0 = (run-steps run ended n refl).because in absurd (omega (arith, z, b))
          go (AnswerIf.long (h, z, b)) = absurd (omega (arith, size, b, lines-short h z))

      pub answers : {o o' : List ℕ} {l loops stuck knot : ℕ} → AnswerCall w v' o (end_of l loops stuck knot) o'
          → evaluated rules net ≡ First.ended n loops stuck knot ++ take l o'
      answers c =
          let P = answer-printed c in
          ends P.sound P.nothing_waits
          ∙ read_lines
          (agents_in w)
          (net_answer P.sound)
          n
          _
          (lines-short P.sound P.nothing_waits)
          P.is_long
          P.is_loops
          P.is_stuck
          P.is_knot
          P.out
