-- Each call has one answer.
use Rattle.std.specs.Prelude.{ℕ, ◌≡◌, refl, Bool, true, false, List, ◌↔◌, length, Ok, Err}
use Rattle.std.proofs.Common.{sym, ap, subst, ◌∙◌, arith}
use Rattle.parts.specs.Limits.{table_size}
use Rattle.parts.specs.Faults.{fault_number}
use Rattle.texts.specs.Books.{Book}
use Rattle.texts.specs.Answers.{OfText, accepted, refused}
use Rattle.texts.specs.RuleText.{read_rules}
use Rattle.model.specs.State.{St, zeros}
use Rattle.model.proofs.Beneath.Facts.{zeros-length, zero_at}
use Rattle.model.specs.Run.{ran}
use Rattle.model.proofs.Kept.{step_sound, walk_sound}
use Rattle.model.proofs.Stopped.{run_is_right}
use Rattle.std.proofs.lemmas.List.Edits.{sets}
use Rattle.state.specs.Layout.{state_size, view}
use Rattle.state.proofs.Whole.{whole}
use Rattle.state.proofs.Counts.{view-zeros}
use Rattle.sound.specs.Lent.{under}
use Rattle.table.specs.Layout.{table_bytes}
use Rattle.table.specs.Laws.Whole.{nothing-bytes}
use Rattle.lent.specs.Both.{BothSound, sound_table_lem, sound-state}
use Rattle.lent.specs.Decided.{decided}
use Rattle.parts.specs.declared.faults.Fault.TheVariants as Why
use Rattle.review.specs.Answers.{TextAnswer, refused_on, StepAnswer, RunAnswer}
use Rattle.review.proofs.Beneath.Numbers.{rule_fault, net_fault, rules-refused}
use Rattle.texts.specs.Refused.{RulesRefused}
use Rattle.texts.proofs.Main as Texts
use Rattle.rules.proofs.Main as Rules
use Rattle.rules.specs.Answer.{refusal, leaves, leaves_by, rules_read}
use Rattle.nets.specs.Answer.{Call, filled, kept, sound_table, net_call}
use Rattle.nets.specs.Main as Nets
use Rattle.machine.specs.Calls.{out, step_told, run_told}
use Rattle.answer.specs.Main as Answers
use Rattle.evaluation.specs.Evaluated.{evaluated}
use Rattle.review.specs.Promises.{StateArray, RulesCall, NetCall, StepCall, RunCall, AnswerCall, EvaluateCall, TableTest, BothTest, EmptyState, EmptyTable, One, Any}
use Rattle.review.proofs.Beneath.Reads.{answer_some, answer_comes, answer_leaves}
use Rattle.review.proofs.Beneath.Told.{step-alike, run-alike}
use Rattle.review.proofs.Beneath.Arrays.{array_of, view_of_array}
use Rattle.review.proofs.Beneath.Steps.{StepIf, if_moves, step_leaves, moves_to, step_some, step_comes, RunIf, if_stops, run_leaves, run_some, run_comes}

some_rules : (text table : List ℕ) → (r : TextAnswer) × (u : List ℕ) × RulesCall text table r u
unfolding rules_read leaves refusal leaves_by
some_rules text table = go (read_rules text) refl
  where
    go : (x : OfText Book) → read_rules text ≡ x → (r : TextAnswer) × (u : List ℕ) × RulesCall text table r u
    go (accepted b) e = (Ok tt, table_bytes b, record { promised = rw e })
    go (refused n k) e =
        let r = (Texts.rule-text-refused text n k).0 e in
        let f = rule_fault r in
        let q : RulesRefused text (fault_number f.0) k = subst (λ m. RulesRefused text m k) (sym f.1) r in
        (refused_on f.0 k, table, (rules-refused text table table f.0 k).1 (q, refl))

some_net : (text w v : List ℕ) → (r : TextAnswer) × (v' : List ℕ) × NetCall text w v r v'
some_net text w v = go (net_call text w (view v)) refl (sound_table w) refl
  where
    filled-kept : {A : Type 0} {s t : St} {n l : ℕ} → filled s ≡ kept n l t → A
    filled-kept e = absurd (let z : ◌≡◌ {A = ℕ} 0 1 = cc in omega arith)

    go : (k : Call) → net_call text w (view v) ≡ k → (b : Bool) → sound_table w ≡ b
        → (r : TextAnswer) × (v' : List ℕ) × NetCall text w v r v'
    go (kept n l s) e true f =
        let q = Nets.refused_keeps text w (view v) s n l e in
        let r = (Nets.refused-exact text w (view v) ((Nets.sound-exact w).0 f) n l).0 (e ∙ ap (kept n l) q) in
        let g = net_fault r in
        (refused_on g.0 l, v, record { promised = ap (λ m. kept m l (view v)) g.1 ∙ ap (kept n l) (sym q) ∙ sym e })
    go (kept n l s) e false f = (refused_on Why.Unsound 0, v, record { promised = sym (Nets.unsound_16 text w (view v) f) })
    go (filled s) e false f = filled-kept (sym e ∙ Nets.unsound_16 text w (view v) f)
    go (filled s) e true f =
        let g = (Nets.sound-exact w).0 f in
        let l = Nets.accepted-loads text g.0 g.1 (view v) s (subst (λ u. net_call text u (view v) ≡ filled s) g.2 e) in
        let q = view_of_array s (rw l.state l.sound.sizes) in
        (Ok tt, array_of s, record { promised = ap filled q ∙ sym e })

some_step : (w v : List ℕ) (p : ℕ) → (r : StepAnswer) × (v' : List ℕ) × StepCall w v p r v'
some_step w v p =
    let k = step_some w v p in
    let u = holds k.0 k.1 in
    (k.0, u.0, record { promised = ap (out (step_told k.0)) u.1 ∙ sym (step_comes w v p k.0 k.1) })
  where
    holds : (q : StepAnswer) → StepIf w v p q → (u : List ℕ) × (view u ≡ step_leaves w v p q)
    holds (Err f) i = (v, refl)
    holds (Ok u) k =
        let i = if_moves w v p k in
        let z = step_sound (sound_table_lem i.0) (sound-state i.0) p (moves_to w v p i) in
        (array_of (step_leaves w v p (Ok tt)), view_of_array (step_leaves w v p (Ok tt)) z.sizes)

some_run : (w v : List ℕ) (budget : ℕ) → (r : RunAnswer) × (v' : List ℕ) × RunCall w v budget r v'
some_run w v budget =
    let k = run_some w v budget in
    let u = holds k.0 k.1 in
    (k.0, u.0, record { promised = ap (out (run_told k.0)) u.1 ∙ sym (run_comes w v budget k.0 k.1) })
  where
    ran_to : St
    ran_to = (ran (under w) budget (view v)).state

    on : BothSound w v → (u : List ℕ) × (view u ≡ ran_to)
    on h =
        let k = run_is_right (sound_table_lem h) budget (sound-state h) in
        (array_of ran_to, view_of_array ran_to (walk_sound (sound_table_lem h) (sound-state h) k.walk).sizes)

    holds : (q : RunAnswer) → RunIf w v budget q → (u : List ℕ) × (view u ≡ run_leaves w v budget q)
    holds (Err f) i = (v, refl)
    holds (Ok r) i = on (if_stops w v budget i).0

-- A state that looks alike is alike in every word.
pub same_state : {v w : List ℕ} → StateArray v → StateArray w → view v ≡ view w → v ≡ w
same_state {v} {w} a b e = whole v w a.long b.long a.words b.words e

one : {A : Type 0} {Lent : List ℕ → Type 0} {Call : A → List ℕ → Type 0} → (r : A) × (u : List ℕ) × Call r u
    → ((r q : A) (u v : List ℕ) → Lent u → Lent v → Call r u → Call q v → (r ≡ q) × (u ≡ v)) → One Lent Call
one s o = record { answer = s.0; leaves = s.1; meets = s.2; once = o }

pub rules : (text table : List ℕ) → One Any (RulesCall text table)
rules text table =
    one (some_rules text table) (λ r q u v a b c d. Rules.only-answer text table r q u v c.promised d.promised)

pub net : (text w v : List ℕ) → One StateArray (NetCall text w v)
net text w v =
    one
    (some_net text w v)
    (λ r q v₁ v₂ a b c d.
    let k = Nets.one_answer r q (view v₁) (view v₂) (c.promised ∙ sym d.promised) in (k.0, same_state a b k.1))

pub step : (w v : List ℕ) (p : ℕ) → One StateArray (StepCall w v p)
step w v p =
    one
    (some_step w v p)
    (λ r q v₁ v₂ a b c d.
    let e = c.promised ∙ sym d.promised in
    (step-alike r q (ap (λ o. o.told) e), same_state a b (ap (λ o. o.state) e)))

pub run : (w v : List ℕ) (budget : ℕ) → One StateArray (RunCall w v budget)
run w v budget =
    one
    (some_run w v budget)
    (λ r q v₁ v₂ a b c d.
    let e = c.promised ∙ sym d.promised in
    (run-alike r q (ap (λ o. o.told) e), same_state a b (ap (λ o. o.state) e)))

pub answer : (w v o : List ℕ) → One Any (AnswerCall w v o)
answer w v o =
    one
    (let s = answer_some w v o in
    (s.0, answer_leaves w v o s.0, record { promised = sym (answer_comes w v o s.0 s.1) }))
    (λ g h p q a b c d. Answers.only-answer w v o g h p q c.promised d.promised)

pub evaluate : (rules net o : List ℕ) → One Any (EvaluateCall rules net o)
evaluate rules net o =
    one
    (length (evaluated rules net), sets o 0 (evaluated rules net), record { out = refl; long = refl })
    (λ r q o₁ o₂ a b c d. (c.long ∙ sym d.long, c.out ∙ sym d.out))

-- What the constructors of an empty state and of an empty table answer is zero throughout.
zeros_array : (n : ℕ) → n ≡ state_size → StateArray (zeros n)
zeros_array n e = record { long = zeros-length n ∙ e; words = λ i. omega (arith, zero_at n i) }

pub empty-state : {r : List ℕ} → StateArray r → EmptyState r ↔ (r ≡ zeros state_size)
empty-state {r} a = (
  λ e. same_state a (zeros_array state_size refl) (e.promised ∙ sym (view-zeros state_size (omega arith))),
  λ e. record { promised = ap view e ∙ view-zeros state_size (omega arith) },
)

pub empty-table : {r : List ℕ} → EmptyTable r ↔ (r ≡ zeros table_size)
empty-table = (λ e. e.promised ∙ nothing-bytes, λ e. record { promised = e ∙ sym nothing-bytes })

pub table_test : (w : List ℕ) → (r : Bool) × TableTest w r
table_test w = (sound_table w, record { promised = Nets.sound-exact w })

pub both_test : (w v : List ℕ) → (r : Bool) × BothTest w v r
both_test w v = go (decided w v)
  where
    go : Dec (BothSound w v) → (r : Bool) × BothTest w v r
    go (yes h) = (true, record { promised = (λ e. h, λ h. refl) })
    go (no h) = (false, record { promised = (λ e. absurd (let z : ◌≡◌ {A = ℕ} 0 1 = cc in omega arith), λ k. absurd (h k)) })
