-- Where calls of step and runs from one accepted net come to, and what two ends of it have in common.
use Rattle.std.specs.Prelude.{ℕ, suc, ◌+◌, ◌*◌, ◌≤◌, ◌≡◌, refl, List, [], ◌∷◌, ◌++◌, ◌⊎◌, length, drop}
use Rattle.std.proofs.Common.{sym, ap, ap₂, subst, ◌∙◌, inl, inr, arith}
use Rattle.parts.specs.Limits.{rule_equations_max}
use Rattle.calculus.specs.Calculus.{Label}
use Rattle.calculus.specs.Nets.{◌≈◌}
use Rattle.calculus.specs.Order as Order
use Rattle.calculus.specs.Terms.{Conf, count}
use Rattle.calculus.proofs.Beneath.Rename.{≈_trans}
use Rattle.model.specs.State.{St, used}
use Rattle.model.specs.Table.{Table}
use Rattle.model.specs.Load.{Net, loaded}
use Rattle.model.specs.NetReads.{NetReads}
use Rattle.model.specs.SoundTable.{SoundTable}
use Rattle.model.proofs.Conservation.{conservation_from}
use Rattle.model.specs.Agree.{Agrees}
use Rattle.model.specs.Walk.{Walk, EndsAt, below, over, right, Stop}
use Rattle.model.specs.Sound.{meaning}
use Rattle.model.proofs.Kept.{one_meaning}
use Rattle.model.proofs.Demand3 as Model
use Rattle.state.specs.Layout.{view}
use Rattle.sound.specs.Lent.{under}
use Rattle.lent.specs.Both.{BothSound, sound_table_lem, sound-state}
use Rattle.review.proofs.Beneath.Told.{told-stop}
use Rattle.review.specs.Answers.{StepAnswer}
use Rattle.texts.specs.Bytes.{text_of}
use Rattle.table.specs.Layout.{agents_in}
use Rattle.answers.specs.Same.{Same}
use Rattle.answers.specs.Text.{line_of_face, eq_lines, answer_text}
use Rattle.answers.proofs.Main.{no_two_tonnages}
use Rattle.review.specs.Promises.{RunCall, Printed, net_answer, lines_of_net}
use Rattle.review.specs.Picks.{Accepted, Ends, Picks, stop_answer, Call, Moves, Agreed, Calls, ComesToEnd, OneTonnage}
use Rattle.review.proofs.Beneath.Made.{run-steps}
use Rattle.review.proofs.Beneath.Started.{start_table, start_reads, start_sound, start_ends, state_is}
use Rattle.review.proofs.Beneath.Walking.{WalkOf, picks_walk, picks-steps, call-walk, moves_walk, walk_keeps, moves-sound, Stops, Goes, stop_or_go, picks-long}

below_same : (n : ℕ) {f g : ℕ → ℕ} → ((i : ℕ) → f i ≡ g i) → below n f ≡ below n g
below_same ℕ.zero e = refl
below_same (ℕ.suc n) e = ap₂ (λ a b. a + b) (below_same n e) (e n)

pub cells : {w v : List ℕ} → BothSound w v → {is v' : List ℕ} → Moves w v is v'
    → used (view v').symbols + over (under w) (λ i. count i is * 2)
    ≡ used (view v).symbols + over (under w) (λ i. count i is * right (under w) i)
cells {w} {v} h {v' = v'} m =
    let x = moves_walk m in
    let k = conservation_from (sound_table_lem h) (sound-state h) x.walk in
    ap (λ n. used (view v').symbols + n) (sym (below_same (length (under w).rules) (λ i. ap (λ n. n * 2) (x.uses_same i))))
    ∙ k
    ∙ ap (λ n. used (view v).symbols + n) (below_same (length (under w).rules) (λ i. ap (λ n. n * right (under w) i) (x.uses_same i)))

-- A walk from a state that is a loaded net.
agreed-from : {T : Table} → SoundTable T → {N : Net} {C D : Conf} {M : List Label} → NetReads T N C → EndsAt T C M D
    → {s s' : St} → s ≡ loaded N → (w : Walk T s s') → Agrees w M D
agreed-from {T} t {N} {C} {D} {M} r e {s} {s'} q =
    subst (λ z. (w : Walk T z s') → Agrees w M D) (sym q) (λ w. Model.demand_3_loaded t r e w)

module _ {rules net w v : List ℕ} (a : Accepted rules net w v) {M : List Label} {N : Conf} (ends : Ends a.book a.spelt M N) where
  -- The net that the plain sequence of steps over the table comes to.
  abbrev N' : Conf
  N' = (start_ends a ends).0

  agrees : {s' : St} (k : Walk (under w) (view v) s') → Agrees k M N'
  agrees k = agreed-from (start_table a) (start_reads a) (start_ends a ends).1 (state_is a) k

  walk_agrees : {is v' : List ℕ} → WalkOf (under w) (view v) is (view v') → Agreed w is v' M N
  walk_agrees x =
      let k = agrees x.walk in
      let h = walk_keeps (start_sound a) x in
      record {
        sound = h;
        never_more = rw (← x.made_same) k.no_more;
        no_rule_more = λ i. rw (← x.uses_same i) (k.no_more_uses i);
        at_end = λ q.
            let z = k.at_end q in (
              sym x.made_same ∙ z.0,
              (λ i. sym (x.uses_same i) ∙ z.1 i),
              ≈_trans (subst (λ C. C ≈ N') (one_meaning k.sound (sound-state h)) z.2) (start_ends a ends).2,
            );
      }

  pub moves-agree : {is v' : List ℕ} → Moves w v is v' → Agreed w is v' M N
  moves-agree m = walk_agrees (moves_walk m)

  pub run_agrees : {budget : ℕ} {v' : List ℕ} (t : Stop) (n : ℕ) → RunCall w v budget (stop_answer t n) v'
      → (n ≤ Order.interactions M)
      × (h : BothSound w v')
      × ((view v').waiting.used ≡ 0 → (n ≡ Order.interactions M) × (meaning (sound-state h) ≈ N))
  run_agrees t n c =
      let s = run-steps c t n (told-stop t n) in
      let k = walk_agrees (call-walk (Call.run {t = t} {n = n} c s)) in (
        subst (λ i. i ≤ Order.interactions M) s.interactions k.never_more,
        k.sound,
        λ q. let z = k.at_end q in (sym s.interactions ∙ z.0, z.2),
      )

  -- No more steps are made than so many.
  bound : ℕ
  bound = (view v).waiting.used + (Order.steps M + rule_equations_max * Order.interactions M)

  steps_bounded : {ps is v' : List ℕ} → Picks w v ps is v' → length ps ≤ bound
  unfolding bound
  steps_bounded m = rw (← picks-steps m) (agrees (picks_walk m).walk).few_steps

  pub comes_to_end : {f : ℕ → ℕ} {r : ℕ → StepAnswer} (vs : ℕ → List ℕ) → vs 0 ≡ v → Calls w f r vs → ComesToEnd w f vs M N
  comes_to_end {f} {r} vs e c =
      go (stop_or_go (suc bound) vs (subst (BothSound w) (sym e) (start_sound a)) c)
    where
      from : {ps is v' : List ℕ} → Picks w (vs 0) ps is v' → Picks w v ps is v'
      from {ps} {is} {v'} = subst (λ u. Picks w u ps is v') e

      go : Stops w f vs ⊎ Goes w f vs (suc bound) → ComesToEnd w f vs M N
      go (inl s) =
          record {
            after = s.after;
            nothing_waits = s.nothing_waits;
            fired = s.fired;
            picks = s.picks;
            agreed = walk_agrees (picks_walk (from s.picks));
          }
      go (inr (is, m)) = absurd (omega (arith, steps_bounded (from m), picks-long f (suc bound)))

pub ways_agree : {w v : List ℕ} → BothSound w v → {is js v₁ v₂ : List ℕ} → Moves w v is v₁ → (view v₁).waiting.used ≡ 0
    → Moves w v js v₂
    → (length js ≤ length is)
    × (h₁ : BothSound w v₁)
    × (h₂ : BothSound w v₂)
    × ((view v₂).waiting.used ≡ 0
    → (length js ≡ length is)
    × ((i : ℕ) → count i js ≡ count i is)
    × (meaning (sound-state h₂) ≈ meaning (sound-state h₁)))
ways_agree h m e n =
    let x = moves_walk m in
    let y = moves_walk n in
    let h₁ = moves-sound h m in
    let h₂ = moves-sound h n in
    let z = Model.walks_agree (sound_table_lem h) (sound-state h) x.walk e y.walk in (
      rw (← x.made_same, ← y.made_same) z.0,
      h₁,
      h₂,
      λ f.
          let u = z.1 f in (
            sym y.made_same ∙ u.0 ∙ x.made_same,
            (λ i. sym (y.uses_same i) ∙ u.1 i ∙ x.uses_same i),
            u.2 (sound-state h₁) (sound-state h₂),
          ),
    )

joined : (a b c : List ℕ) → (a ++ (10 ∷ b)) ++ c ≡ a ++ (10 ∷ (b ++ c))
joined [] b c = refl
joined (x ∷ a) b c = ap (λ l. x ∷ l) (joined a b c)

begins : {w v : List ℕ} (h : BothSound w v) (rest : List ℕ)
    → lines_of_net h ++ rest
    ≡ line_of_face (agents_in w) (net_answer h).face
    ++ (10 ∷ (text_of (eq_lines (agents_in w) (net_answer h).pairs) ++ rest))
unfolding answer_text text_of
begins {w} h rest = joined (line_of_face (agents_in w) (net_answer h).face) _ rest

-- What stands after the `face` line: the `eq` lines, and the bytes that stay.
abbrev rest : {w v : List ℕ} → BothSound w v → List ℕ → List ℕ
rest {w} h o = text_of (eq_lines (agents_in w) (net_answer h).pairs) ++ drop (length (lines_of_net h)) o

pub tonnage : {w v : List ℕ} → BothSound w v → {is js v₁ v₂ : List ℕ} → Moves w v is v₁ → Moves w v js v₂
    → {o₁ o₂ out₁ out₂ : List ℕ} {l₁ n₁ k₁ m₁ l₂ n₂ k₂ m₂ : ℕ} → Printed w v₁ o₁ l₁ n₁ k₁ m₁ out₁
    → Printed w v₂ o₂ l₂ n₂ k₂ m₂ out₂ → OneTonnage n₁ k₁ m₁ out₁ n₂ k₂ m₂ out₂
tonnage {w} h m n {o₁} {o₂} p q =
    let s : Same (net_answer p.sound) (net_answer q.sound) =
    no_two_tonnages
    (sound_table_lem h)
    (sound-state h)
    (moves_walk m).walk
    p.nothing_waits
    (sound-state p.sound)
    (moves_walk n).walk
    q.nothing_waits
    (sound-state q.sound) in
    record {
      loops = p.is_loops ∙ s.loops ∙ sym q.is_loops;
      stuck = p.is_stuck ∙ s.stuck ∙ sym q.is_stuck;
      knot = p.is_knot ∙ s.knot ∙ sym q.is_knot;
      face = line_of_face (agents_in w) (net_answer p.sound).face;
      rest₁ = rest p.sound o₁;
      rest₂ = rest q.sound o₂;
      out₁_begins = p.out ∙ begins p.sound _;
      out₂_begins =
          q.out
          ∙ begins q.sound _
          ∙ ap (λ f. line_of_face (agents_in w) f ++ (10 ∷ rest q.sound o₂)) (sym s.face);
    }
