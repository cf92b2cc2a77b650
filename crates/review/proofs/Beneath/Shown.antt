-- Where the run of two texts comes to where nothing waits, the premise of demand 3 holds.
use Rattle.std.specs.Prelude.{ℕ, suc, ◌<◌, ◌≡◌, refl, List, []}
use Rattle.std.proofs.Common.{sym, subst, ◌∙◌, arith}
use Rattle.std.proofs.Math.Path.{ap}
use Rattle.texts.specs.Books.{Book, Net}
use Rattle.texts.specs.Answers.{OfText, accepted, refused}
use Rattle.texts.specs.Coded.{table_of, machine, load}
use Rattle.texts.specs.Good.{GoodBook}
use Rattle.texts.specs.Meaning.{meant_net}
use Rattle.texts.specs.NetText.{read_net}
use Rattle.texts.specs.RuleText.{read_rules}
use Rattle.texts.proofs.Main as Texts
use Rattle.model.specs.State.{St, used}
use Rattle.model.specs.Step.{Answer, moved, refused as not_moved}
use Rattle.model.specs.Stepped.{stepped}
use Rattle.model.specs.Table.{Table}
use Rattle.model.specs.Run.{ran}
use Rattle.model.specs.Load.{loaded, Net as Loaded}
use Rattle.model.specs.NetReads.{NetReads}
use Rattle.model.specs.Sound.{Sound, book}
use Rattle.model.specs.SoundTable.{SoundTable}
use Rattle.model.proofs.Stopped.{refused_12, run_is_right}
use Rattle.model.proofs.Kept.{load_sound, load-means}
use Rattle.model.specs.Walk.{Walk, stay, take, made_in, Ran, AtHead, Stopped, EndsAt}
use Rattle.model.specs.Agree.{steps_in, uses_in}
use Rattle.state.specs.Layout.{view}
use Rattle.table.specs.Layout.{table_bytes}
use Rattle.sound.specs.Lent.{under}
use Rattle.lent.specs.Both.{under_is}
use Rattle.evaluation.specs.Evaluated.{budget}
use Rattle.review.specs.Picks.{Accepted, first_picks, Premise}
use Rattle.review.proofs.Beneath.Arrays.{array_of, view_of_array}
use Rattle.review.proofs.Beneath.Made.{ByCalls, by_calls}
use Rattle.review.proofs.Beneath.Spelt.{spelt-book, spelt-net}
use Rattle.review.proofs.Beneath.Started.{ends-written, start_sound}
use Rattle.calculus.specs.Calculus.{Label, Step, Valid}
use Rattle.calculus.specs.Descent.{Ends, Normal}
use Rattle.calculus.specs.Nets.{◌≈◌}
use Rattle.calculus.specs.Order.{interactions, uses, is_interaction, is_use}
use Rattle.calculus.specs.Terms.{Conf}
use Rattle.calculus.proofs.Beneath.Compatible.{valid_same}
use Rattle.calculus.proofs.Beneath.Descent.{tally_reordered, along, kept-along, normal_along}
use Rattle.calculus.proofs.Beneath.Order.{calculus_diamond}
use Rattle.calculus.proofs.Beneath.Rename.{≈_sym, ≈_trans}
use Rattle.model.proofs.AtEnd.{ended_normal}
use Rattle.model.proofs.Beneath.Books.{book-sound}
use Rattle.model.proofs.Beneath.Walks.{Walked, walked, sound-valid}

-- A walk of the machine to where nothing waits gives steps of the calculus to where none applies, with as many interactions, by
-- each rule as many.
pub record Reached (T : Table) (C : Conf) (made : ℕ) (by_rule : ℕ → ℕ) : Type 0 where
  pub labels : List Label
  pub end : Conf
  pub ends : EndsAt T C labels end
  pub as_many : interactions labels ≡ made
  pub each : (i : ℕ) → uses i labels ≡ by_rule i

pub reached : {T : Table} → SoundTable T → {N : Loaded} {C : Conf} → NetReads T N C → {s' : St} (w : Walk T (loaded N) s')
    → s'.waiting.used ≡ 0 → Reached T C (made_in w) (λ i. uses_in i w)
reached {T} t {N} {C} r {s'} w e = go (walked t s w)
  where
    s : Sound T (loaded N)
    s = load_sound t r

    go : Walked t s s' (steps_in w) (made_in w) (λ i. uses_in i w) → Reached T C (made_in w) (λ i. uses_in i w)
    go k = on (along (calculus_diamond (book-sound t)) (sound-valid t s) (load-means t r) k.ends.way)
      where
        on : Ends ◌≈◌ (Step (book T)) C [] k.ends.left k.ends.end → Reached T C (made_in w) (λ i. uses_in i w)
        on x =
            record {
              labels = x.left;
              end = x.end;
              ends = record { way = x.way; end = last };
              as_many =
                  tally_reordered is_interaction x.labels
                  ∙ tally_reordered is_interaction k.ends.labels
                  ∙ k.interactions_made;
              each = λ i.
                  tally_reordered (is_use i) x.labels ∙ tally_reordered (is_use i) k.ends.labels ∙ k.rules_used i;
            }
          where
            valid : Valid C
            valid = valid_same (load-means t r) (sound-valid t s)

            last : Normal (Step (book T)) x.end
            last =
                normal_along
                (calculus_diamond (book-sound t))
                (kept-along (calculus_diamond (book-sound t)) valid x.way)
                (≈_sym (≈_trans x.equal k.ends.equal))
                (ended_normal t k.sound e)

-- What f makes of the table and the loaded state of two texts; `other` where one is refused.
unfoldable pub of_net : {A : Type 0} → A → (Table → St → A) → Book → OfText Net → A
of_net other f b (accepted n) = f (machine (table_of b)) (loaded (load b.agents n))
of_net other f b (refused n k) = other

unfoldable pub of_texts : {A : Type 0} → A → (Table → St → A) → OfText Book → List ℕ → A
of_texts other f (accepted b) net = of_net other f b (read_net b.agents net)
of_texts other f (refused n k) net = other

-- The steps by pick 0 from a state to where nothing waits, of k at most.
unfoldable pub steps_from : ℕ → Table → St → ℕ
steps_from ℕ.zero T s = 0
steps_from (ℕ.suc k) T s = elim (stepped T s 0) [ moved s' ↦ suc (steps_from k T s') | not_moved n ↦ 0 ]

abbrev one_more : ℕ → Table → Answer → ℕ
one_more k T (moved s) = suc (steps_from k T s)
one_more k T (not_moved n) = 0

steps-so : (k : ℕ) (T : Table) (s : St) (a : Answer) → stepped T s 0 ≡ a → steps_from (suc k) T s ≡ one_more k T a
unfolding steps_from
steps-so k T s a e = same (stepped T s 0) ∙ ap (one_more k T) e
  where
    same : (a : Answer)
        → elim a as (λ _. ℕ) [ moved s' ↦ suc (steps_from k T s') | not_moved n ↦ 0 ] ≡ one_more k T a
    same (moved s) = refl
    same (not_moved n) = refl

counted : {T : Table} {s s' : St} (k : Walk T s s') → AtHead k → s'.waiting.used ≡ 0 → (fuel n : ℕ)
    → steps_from fuel T s ≡ n → n < fuel → steps_in k ≡ n
unfolding steps_in
counted k z e ℕ.zero n q o = absurd (omega (arith, o))
counted {T} {s} stay z e (ℕ.suc fuel) n q o =
    sym (steps-so fuel T s (not_moved 12) ((refused_12 T s 0).1 (omega (arith, e)))) ∙ q
counted {T} (take {s = s} {s' = s₁} p f k) z e (ℕ.suc fuel) n q o =
    let r = sym (steps-so fuel T s (moved s₁) (subst (λ i. stepped T s i ≡ moved s₁) z.0 f)) ∙ q in
    ap suc (counted k z.1 e fuel (steps_from fuel T s₁) refl (omega (arith, r, o))) ∙ r

-- What a run comes to: the interactions, the cells before and after it, the steps (if fewer than `fuel`), and the equations
-- that wait at its end.
pub record Came : Type 0 where
  pub made : ℕ
  pub loads : ℕ
  pub steps : ℕ
  pub cells : ℕ
  pub waits : ℕ

abbrev pub came_of : ℕ → ℕ → ℕ → ℕ → ℕ → Came
came_of i l s c k = record { made = i; loads = l; steps = s; cells = c; waits = k }

abbrev pub came_by : ℕ → Table → St → Came
came_by fuel T s =
    let r = ran T budget s in
    came_of r.made (used s.symbols) (steps_from fuel T s) (used r.state.symbols) r.state.waiting.used

unfoldable pub came : ℕ → List ℕ → List ℕ → Came
came fuel rules net = of_texts (came_of 0 0 0 0 1) (came_by fuel) (read_rules rules) net

-- The premise, and its figures.
pub record Shown (rules net : List ℕ) (c : Came) (fuel : ℕ) : Type 0 where
  pub premise : Premise rules net c.made
  pub cells_loaded : used (view premise.state).symbols ≡ c.loads
  pub by_head : c.steps < fuel → premise.picks ≡ first_picks (λ i. 0) c.steps
  pub cells_at_end : used (view premise.last).symbols ≡ c.cells

-- Of two accepted texts.
module _ (rules net : List ℕ) (b : Book) (n : Net) (p : read_rules rules ≡ accepted b)
    (q : read_net b.agents net ≡ accepted n) where
  abbrev start : St
  start = loaded (load b.agents n)

  abbrev run_end : Ran
  run_end = ran (machine (table_of b)) budget start

  good_book : GoodBook b
  good_book = ((Texts.rule-text-accepted rules b).0 p).1

  table-sound : SoundTable (machine (table_of b))
  table-sound = Texts.table-sound b good_book

  reads : NetReads (machine (table_of b)) (load b.agents n) (meant_net b.agents n)
  reads = Texts.net-loads b good_book n ((Texts.net-text-accepted b.agents net n).0 q).1

  ran-so : Stopped (machine (table_of b)) budget start run_end
  ran-so = run_is_right table-sound budget (load_sound table-sound reads)

  loads : view (array_of start) ≡ start
  loads = view_of_array start (load_sound table-sound reads).sizes

  abbrev texts : Accepted rules net (table_bytes b) (array_of start)
  texts =
      let r = (Texts.rule-text-accepted rules b).0 p in
      let k = (Texts.net-text-accepted b.agents net n).0 q in
      record {
        book = b;
        spelt = n;
        good_book = r.1;
        good_net = k.1;
        rules_is = r.0;
        net_is = k.0;
        rules_read = ([], spelt-book rules [] (table_bytes b) b r.0 r.1 r.2 refl);
        net_read = ([], spelt-net net b r.1 [] (array_of start) n k.0 k.1 k.2 loads);
      }

  same_table : under (table_bytes b) ≡ machine (table_of b)
  same_table = under_is (table_bytes b) b good_book refl

  ran-under : Stopped (under (table_bytes b)) budget start run_end
  ran-under = subst (λ T. Stopped T budget start run_end) (sym same_table) ran-so

  calls : ByCalls (table_bytes b) (array_of start) ran-under.walk
  calls = by_calls ran-under.walk ran-under.at_head (array_of start) loads (start_sound texts)

  premise_of : run_end.state.waiting.used ≡ 0 → Premise rules net run_end.made
  premise_of w =
      let z = reached table-sound reads ran-so.walk w in
      record {
        table = table_bytes b;
        state = array_of start;
        accepted = texts;
        labels = z.labels;
        end = z.end;
        ends = ends-written b good_book n z.ends;
        as_many = z.as_many ∙ sym ran-so.made;
        picks = first_picks (λ i. 0) (steps_in ran-under.walk);
        fired = calls.fired;
        last = calls.last;
        moves = calls.picks;
        nothing_waits = ap (λ s. s.waiting.used) calls.there ∙ w;
      }

  came-shown : (fuel : ℕ) → run_end.state.waiting.used ≡ 0 → Shown rules net (came_by fuel (machine (table_of b)) start) fuel
  unfolding premise_of
  came-shown fuel w =
      record {
        premise = premise_of w;
        cells_loaded = ap (λ s. used s.symbols) loads;
        by_head = λ o.
            ap
            (first_picks (λ i. 0))
            (counted ran-under.walk ran-under.at_head w fuel (steps_from fuel (machine (table_of b)) start) (rw same_table) o);
        cells_at_end = ap (λ s. used s.symbols) calls.there;
      }

pub run_shows : (rules net : List ℕ) (fuel : ℕ) (c : Came) → came fuel rules net ≡ c → c.waits ≡ 0 → Shown rules net c fuel
unfolding came of_texts of_net
run_shows rules net fuel c h w = go (read_rules rules) refl h
  where
    not_none : came_of 0 0 0 0 1 ≡ c → Shown rules net c fuel
    not_none q = let z : ◌≡◌ {A = ℕ} 1 0 = ap (λ c. c.waits) q ∙ w in absurd (omega arith)

    on : (b : Book) → read_rules rules ≡ accepted b → (x : OfText Net) → read_net b.agents net ≡ x
        → of_net (came_of 0 0 0 0 1) (came_by fuel) b x ≡ c → Shown rules net c fuel
    on b e (refused n k) f q = not_none q
    on b e (accepted n) f q =
        subst (λ c. Shown rules net c fuel) q (came-shown rules net b n e f fuel (ap (λ c. c.waits) q ∙ w))

    go : (x : OfText Book) → read_rules rules ≡ x → of_texts (came_of 0 0 0 0 1) (came_by fuel) x net ≡ c → Shown rules net c fuel
    go (accepted b) e q = on b e (read_net b.agents net) refl q
    go (refused n k) e q = not_none q
