-- The theorems on the answer, in one place.
use Rattle.std.specs.Prelude.{◌≡◌, List, ◌++◌, map, ◌⊎◌, ℕ, ◌+◌, ◌≤◌, length}
use Rattle.std.proofs.Common.{sym, ◌∙◌, subst}
use Rattle.std.proofs.Math.Path.{ap}
use Rattle.std.proofs.Math.Option.{some}
use Rattle.std.proofs.lemmas.List.{length-map}
use Rattle.calculus.specs.Terms.{Sort, Tree, Eqn, Conf, ◌∼◌, sub_eqn, ren}
use Rattle.calculus.specs.Calculus.{Book, Label, Step, Valid, Closed, Collect}
use Rattle.calculus.specs.Calculus as Calculus
use Rattle.calculus.specs.Descent.{Steps, Normal}
use Rattle.calculus.specs.Nets.{◌≈◌}
use Rattle.calculus.proofs.Beneath.Ended.{All}
use Rattle.parts.specs.Limits.{names_max}
use Rattle.model.specs.State.{St}
use Rattle.model.specs.Table.{Table}
use Rattle.model.specs.Sound.{Sound, meaning}
use Rattle.model.specs.SoundTable.{SoundTable}
use Rattle.model.specs.Walk.{Walk}
use Rattle.model.proofs.AtEnd.{ended_normal}
use Rattle.model.proofs.Beneath.Walks.{sound-valid}
use Rattle.model.proofs.Beneath.Frame.{good_of}
use Rattle.model.proofs.Beneath.PoolNet.{good-closed}
use Rattle.texts.specs.Books.{Agent}
use Rattle.texts.specs.Terms.{spell}
use Rattle.texts.specs.Reader.{term_of}
use Rattle.texts.proofs.Main.{table-machine}
use Rattle.texts.specs.Coded as Coded
use Rattle.texts.specs.Good as Good
use Rattle.answers.specs.Answer.{Reader, read, stuck, agents, tied_agents, net_agents, answer, Answer}
use Rattle.answers.specs.Same.{Same}
use Rattle.answers.specs.Printer.{state_answer, answer_bytes}
use Rattle.answers.specs.Text.{texts, line_of_face, answer_text}
use Rattle.answers.specs.Printing.{answer_written}
use Rattle.answers.specs.Collected.{Collects, Collected, numbered, fresh, Substituted}
use Rattle.answers.specs.Knots.{Tied, Hangs, Behind, Held, Knotted}
use Rattle.answers.proofs.Beneath.Circles.{never_met}
use Rattle.answers.proofs.Beneath.Circles as Circles
use Rattle.answers.proofs.Beneath.Collecting.{collected}
use Rattle.answers.proofs.Beneath.AnyCollects.{one_end, any_end_printed, goes_on}
use Rattle.answers.proofs.Beneath.Substituting.{substituted}
use Rattle.answers.proofs.Beneath.ReadBack.{answer-reads}
use Rattle.answers.proofs.Beneath.Whole as Whole
use Rattle.answers.proofs.Beneath.Same as Nets
use Rattle.answers.proofs.Beneath.Tonnage as Tonnage
use Rattle.answers.proofs.Beneath.StateAnswer.{state_is_net}
use Rattle.answers.proofs.Beneath.AnswerBytes.{bytes_of-answer, knot_of_answer}

-- BY WHICH PUBLISHED RULES IS THE END READ? The interface by Collects, as long as one applies; the stuck pairs by
-- Substitutions into them. The names left are then numbered by first meeting. A tie that is never met, as on a circle
-- of ties, is put into nothing: it stays, and its agents are the knot.
abbrev pub interface_collected : {B : Book} {C : Conf} → Valid C → Normal (Step B) C → Collected C
interface_collected {C = C} v n = collected C v (Nets.once n)

-- The number that bounds a reading does not matter if it is not below the number of the equations left.
pub enough : (n m : ℕ) {s : Sort} (t : Tree s) (S : Reader) → length S.unmet ≤ n → length S.unmet ≤ m
    → read n t S ≡ read m t S
enough n m t S a b = Whole.read-enough n m t S a b

-- Each agent of a net is printed once, or it is in the knot: nothing vanishes from the answer.
pub all_told : (C : Conf) → agents (answer C).face + agents (answer C).pairs + (answer C).knot ≡ net_agents C
all_told C = Whole.all_told C

-- Nets that are one up to names, order and sides, at an end, have the same interface and as many stuck pairs, loops
-- and agents in the knot.
pub same_answer : {B : Book} {C D : Conf} → Normal (Step B) D → C ≈ D → Same (answer C) (answer D)
same_answer n h = Nets.same_answer n h

-- If their stuck pairs are also in one order, each with the same side first, the answers are one altogether.
pub one_answer : {B : Book} {C D : Conf} → Normal (Step B) D → (h : C ≈ D)
    → map (sub_eqn (ren h.names_by.to)) (stuck C.eqs) ≡ stuck D.eqs → answer C ≡ answer D
one_answer n h e = Nets.one_answer n h e

pub pairs_substituted : {B : Book} {C : Conf} (v : Valid C) (n : Normal (Step B) C)
    → Substituted C (interface_collected v n)
pairs_substituted {C = C} v n = substituted C v (Nets.once n)

-- DOES IT MATTER IN WHICH ORDER COLLECTS ARE MADE? No: where none leads on, the interface is the printed one, once its
-- names are numbered by first meeting.
pub any_collects : {B : Book} {C D : Conf} → Valid C → Normal (Step B) C → Collects C D
    → ((E : Conf) → Collect D E → ⊥) → (answer C).face ≡ (numbered D.face fresh).shown
any_collects v n w m = any_end_printed v (interface_collected v n) w m

-- From wherever they are, they can go on to such an end,
pub collects_end : {B : Book} {C D : Conf} → Valid C → Normal (Step B) C → Collects C D
    → (E : Conf) × Collects D E × ((F : Conf) → Collect E F → ⊥)
collects_end v n w = goes_on v (interface_collected v n) w

-- and two such ends are one net up to names, order and sides; of any valid net.
pub collects_agree : {C D E : Conf} → Valid C → Collects C D → ((F : Conf) → Collect D F → ⊥) → Collects C E
    → ((F : Conf) → Collect E F → ⊥) → D ≈ E
collects_agree v w n u m = one_end v w n u m

-- WHAT IS THE KNOT? When the end is read, each tie is held or is left,
pub held_or_left : {B : Book} {C : Conf} → Normal (Step B) C → (x : ℕ) → Tied C.eqs x
    → Held C x ⊎ Tied (never_met C) x
held_or_left {C = C} n x t = Circles.held_or_left C (Nets.once n) x t

-- and no tie left is held: those left are exactly those that are not held.
pub left_not_held : {B : Book} {C : Conf} → Normal (Step B) C → (x : ℕ) → Tied (never_met C) x → Held C x → ⊥
left_not_held {C = C} n x t h = Circles.left_free C (Nets.once n) x t h

-- Where each name occurs twice, each tie left hangs on a tie left. (If x occurred once only, in x = Z, its tie would be
-- left and hang on nothing. In a sound state each name occurs twice.)
pub left_hangs : {B : Book} {C : Conf} → Closed C → Normal (Step B) C → (x : ℕ) → Tied (never_met C) x
    → (y : ℕ) × (Hangs C.eqs x y × Tied (never_met C) y)
left_hangs {C = C} c n x t = Circles.left_hangs C c (Nets.once n) x t

-- As ties are finitely many, upwards from a tie left one comes to a circle: the knot is the agents of the ties on
-- circles of ties and behind them, and all other ties are held.
pub knot_of_circles : {B : Book} {C : Conf} → Closed C → Normal (Step B) C → Knotted C
knot_of_circles {C = C} c n = Circles.knotted C c (Nets.once n)

-- No tie is held and also on a circle or behind one.
pub not_both : {B : Book} {C : Conf} → Valid C → Normal (Step B) C → (x : ℕ) → Tied C.eqs x → Held C x
    → Behind C.eqs x → ⊥
not_both {C = C} v n x t h b = Circles.held_not_behind C v (Nets.once n) h t b

-- So in whatever way the ties on circles and behind them are parted from the others, the agents that they have are as
-- many as the knot.
pub knot-counted : {B : Book} {C : Conf} → Closed C → Normal (Step B) C → (k m : List Eqn) → C.eqs ∼ k ++ m
    → ((x : ℕ) → Tied k x → Behind C.eqs x → ⊥) → ((x : ℕ) → Tied m x → Behind C.eqs x)
    → (answer C).knot ≡ tied_agents m
knot-counted {C = C} c n k m p f h = Circles.knot_is C c (Nets.once n) k m p f h

-- CAN ONE SHIP GET TWO TONNAGES? Two sequences of steps of the calculus from one valid net to ends: no.
pub one_tonnage : {B : Book} → Calculus.Sound B → {C N D : Conf} {M M' : List Label} → Valid C
    → Steps (Step B) C M N → Normal (Step B) N → Steps (Step B) C M' D → Normal (Step B) D
    → Same (answer D) (answer N)
one_tonnage S v w n w' m = Tonnage.one_tonnage S v w n w' m

module _ {T : Table} (t : SoundTable T) where
  -- Two walks of the machine from one sound state, whatever was picked at each step, to where nothing waits: no.
  pub no_two_tonnages : {s s₁ s₂ : St} → Sound T s
      → Walk T s s₁ → s₁.waiting.used ≡ 0 → (h₁ : Sound T s₁)
      → Walk T s s₂ → s₂.waiting.used ≡ 0 → (h₂ : Sound T s₂)
      → Same (answer (meaning h₁)) (answer (meaning h₂))
  no_two_tonnages h w e h₁ v f h₂ = Tonnage.no_two_tonnages t h w e h₁ v f h₂

  -- The answer told of the arrays of a sound ended state is the answer of the net that the state stands for.
  pub state-printed : {s : St} (h : Sound T s) → s.waiting.used ≡ 0 → state_answer T s ≡ answer (meaning h)
  state-printed h e = state_is_net t h e

  -- So two ended walks from one sound state have the same answer, told of their arrays.
  pub states_agree : {s s₁ s₂ : St} → Sound T s
      → Walk T s s₁ → s₁.waiting.used ≡ 0 → Sound T s₁
      → Walk T s s₂ → s₂.waiting.used ≡ 0 → Sound T s₂
      → Same (state_answer T s₁) (state_answer T s₂)
  states_agree h w e h₁ v f h₂ =
      let r = no_two_tonnages h w e h₁ v f h₂ in
      let p = state-printed h₁ e in
      let q = state-printed h₂ f in
      record {
        face = ap (λ A. A.face) p ∙ r.face ∙ sym (ap (λ A. A.face) q);
        stuck = ap (λ A. A.stuck) p ∙ r.stuck ∙ sym (ap (λ A. A.stuck) q);
        loops = ap (λ A. A.loops) p ∙ r.loops ∙ sym (ap (λ A. A.loops) q);
        knot = ap (λ A. A.knot) p ∙ r.knot ∙ sym (ap (λ A. A.knot) q);
      }

  -- And that net is read by the published rules.
  pub state-read : {s : St} (h : Sound T s) → s.waiting.used ≡ 0
      → (c : Collected (meaning h)) × Substituted (meaning h) c
  state-read h e =
      let v = sound-valid t h in
      let n = ended_normal t h e in (interface_collected v n, pairs_substituted v n)

  -- The knot told of its arrays is the agents of the ties on circles and behind them.
  pub state_knotted : {s : St} (h : Sound T s) → s.waiting.used ≡ 0
      → (k : Knotted (meaning h)) × ((state_answer T s).knot ≡ tied_agents k.never)
  state_knotted {s} h e =
      let k = knot_of_circles (good-closed (good_of h) names_max s.loops h.sizes.names) (ended_normal t h e) in
      (k, ap (λ A. A.knot) (state-printed h e) ∙ k.knot)

  -- The byte printer prints that answer, and the cells that it leaves are the knot.
  pub bytes-printed : (ags : List Agent) {s : St} → Sound T s → s.waiting.used ≡ 0
      → ((answer_written ags T s).bytes ≡ answer_bytes ags T s)
      × ((answer_written ags T s).after.left ≡ (state_answer T s).knot)
  unfolding answer_bytes
  bytes-printed ags h e = (
    bytes_of-answer ags t h e ∙ ap (answer_text ags) (sym (state_is_net t h e)),
    knot_of_answer ags t h e ∙ ap (λ A. A.knot) (sym (state_is_net t h e)),
  )

-- Where the answers are the same, the `face` lines are the same to the byte.
pub same_line : (ags : List Agent) {A B : Answer} → Same A B → line_of_face ags A.face ≡ line_of_face ags B.face
same_line ags h = ap (line_of_face ags) h.face

-- Each term that is printed reads back as the term that it is.
pub printed-reads : (tab : Coded.Table) → Good.SoundTable tab → {s : St} → Sound (Coded.machine tab) s
    → s.waiting.used ≡ 0
    → All (λ u. term_of (spell u) ≡ some u) (texts tab.agents (state_answer (Coded.machine tab) s).face)
    × All (λ u. term_of (spell u) ≡ some u) (texts tab.agents (state_answer (Coded.machine tab) s).pairs)
unfolding Coded.machine
printed-reads tab k {s} h e =
    let p = (table-machine tab).0 k in
    let r = answer-reads tab.agents p.0 p.1 (length-map tab.agents (λ a. a.arity)) h e in
    let q = state_is_net p.1 h e in (
      subst (λ A. All (λ u. term_of (spell u) ≡ some u) (texts tab.agents A.face)) (sym q) r.0,
      subst (λ A. All (λ u. term_of (spell u) ≡ some u) (texts tab.agents A.pairs)) (sym q) r.1,
    )
