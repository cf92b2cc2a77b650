-- One law for each way out of the meeting of two cells.
use Rattle.std.proofs.Common.{◌≡◌, refl, ap, subst, sym, ◌∙◌, Bool, true, false, Option, Some, None, Result, Ok, Err, List, [], ◌∷◌, ◌++◌, ℕ, suc, ◌-◌, ◌<◌, ◌≤◌, pred, arith, length, get_or}
use Rattle.calculus.proofs.Beneath.Count.{δ_same, sum-append}
use Rattle.calculus.specs.Terms.{δ, count, Terms, Eqn}
use Rattle.parts.specs.Limits.{symbols_max}
use Rattle.parts.specs.Sides.{cell, Pair, ◌:=◌}
use Rattle.parts.specs.Sides as Plain
use Rattle.model.proofs.Kept.{step_sound}
use Rattle.model.proofs.Beneath.Bonds.{◌≃◌}
use Rattle.model.proofs.Beneath.Parts.{part}
use Rattle.model.specs.Ranges.{LiveSide}
use Rattle.model.proofs.Beneath.Ranges.{waiting-live}
use Rattle.model.proofs.Beneath.Selves.{picked-out}
use Rattle.model.proofs.Beneath.Stepped.{Finds, FoundAt, finds}
use Rattle.model.specs.Reading.{Reads, by_cell, ReadsAll, no_pairs, pairs, pool_of}
use Rattle.model.specs.Rows.{Row, no_rule}
use Rattle.model.specs.Walk.{one_made}
use Rattle.model.specs.Sound.{Sound, pool}
use Rattle.model.specs.State.{St, equation, unpack, pulled, listed}
use Rattle.model.specs.Step.{Answer, moved, held, picked, place, rule_of, symbol_of, taken_out}
use Rattle.model.specs.Stepped.{fire_if, meet, stepped}
use Rattle.model.proofs.StepTable.{step-table}
use Rattle.model.specs.Table.{Cell, Entry, Table, Found, none, straight, turned, no_entry}
use Rattle.state.specs.Moves.{out_of_waiting, put_on}
use Rattle.sound.specs.Lent.{under}
use Rattle.table.specs.Layout.{entry_at}
use Rattle.table.specs.Layout as Layout
use Rattle.table.specs.Rule.{matched}
use Rattle.table.specs.declared.Match.{Match}
use Rattle.table.specs.declared.Match.TheVariants.{Straight, Turned}
use Rattle.texts.specs.Coded as Coded
use Rattle.texts.specs.TableTest.{test_table}
use Rattle.kept.specs.Right.{Right}
use Rattle.kept.specs.declared.Kept.{Kept}
use Rattle.lent.specs.Both.{given-tested, given-usable, given-sound}
use Rattle.firing.specs.Built.{Ruled}
use Rattle.firing.specs.Fires.{Pairing}
use Rattle.machine.proofs.Ruling.{rule_is, ruled}
use Rattle.machine.proofs.Sounds.{pullable}
use Rattle.machine.specs.Meets.{Symbolled, Stickable, stuck_on, Counted, Interactable, Interacting, Meetable, Meeting}
use Rattle.machine.specs.declared.outcome.Made.{Made}
use Rattle.machine.specs.declared.outcome.Stop.{Stop}
use Rattle.machine.specs.declared.outcome.Stop.TheVariants.{Ended, Paused, NoRoom}

never : {A : Type 0} → ◌≡◌ {A = ℕ} 0 1 → A
never z = absurd (omega arith)

-- What was found, by the answer of the look-up.
found_none : (r : Found) (m : Option Match) → m ≡ matched r → m ≡ None → r ≡ none
found_none none m e q = refl
found_none (straight i d) m e q = never (let z : ◌≡◌ {A = ℕ} 0 1 = cc in z)
found_none (turned i d) m e q = never (let z : ◌≡◌ {A = ℕ} 0 1 = cc in z)

found-straight : (r : Found) (m : Option Match) (i : ℕ) → m ≡ matched r → m ≡ Some (Straight i) → (e : Entry) × (r ≡ straight i e)
found-straight none m i e q = never (let z : ◌≡◌ {A = ℕ} 0 1 = cc in z)
found-straight (straight j d) m i e q = (d, ap (λ n. straight n d) (let z : j ≡ i = cc in z))
found-straight (turned j d) m i e q = never (let z : ◌≡◌ {A = ℕ} 0 1 = cc in z)

found-turned : (r : Found) (m : Option Match) (i : ℕ) → m ≡ matched r → m ≡ Some (Turned i) → (e : Entry) × (r ≡ turned i e)
found-turned none m i e q = never (let z : ◌≡◌ {A = ℕ} 0 1 = cc in z)
found-turned (straight j d) m i e q = never (let z : ◌≡◌ {A = ℕ} 0 1 = cc in z)
found-turned (turned j d) m i e q = (d, ap (λ n. turned n d) (let z : j ≡ i = cc in z))

-- A rule that was found is that of its number.
at_number : {rs : List Entry} {i : ℕ} {e : Entry} → FoundAt rs 0 i e → (i < length rs) × (get_or rs i no_entry ≡ e)
at_number {rs} {i} f =
    let z : f.at ≡ i = omega (arith, f.number) in
    (omega (arith, f.inside), ap (λ n. get_or rs n no_entry) (sym z) ∙ f.is)

-- Two cells of one equation are different, since each is reached once.
twice-met : {mem : ℕ → Cell} {a b : ℕ} {ts : Terms} {cs : List ℕ} → Reads mem (cell a ∷ cell b ∷ []) ts cs → a ≡ b → 2 ≤ count a cs
twice-met {a = a} {b = b} (by_cell {ds = ds} e q (by_cell {ds = es} e' q' Reads.none)) z =
    omega (
      arith,
      δ_same a,
      ap (δ a) (sym z),
      sum-append (δ a) ds (b ∷ (es ++ [])),
    )

pair-met : {mem : ℕ → Cell} {a b : ℕ} {m : List Eqn} {cs : List ℕ} → ReadsAll mem ((cell a := cell b) ∷ []) m cs → a ≡ b → 2 ≤ count a cs
pair-met {a = a} (pairs {cs = cs} r no_pairs) z = omega (arith, twice-met r z, sum-append (δ a) cs [])

module _ {T : Table} (s : St) (h : Sound T s) (p : ℕ) (o : p < s.waiting.used) (a b : ℕ) (is : picked s p ≡ (cell a := cell b)) where
  pub apart : ¬ (a ≡ b)
  apart z =
      let k = part ((cell a := cell b) ∷ []) (subst (λ q. pool s ≃ q ∷ others) is (picked-out s h p o)) h.reads.pool_reads in
      omega (arith, pair-met k.it z, k.cells a, h.once a)
    where
      others : List Pair
      others = pool_of (unpack (pred s.waiting.used) (pulled (place s p) s.waiting.words)) (listed s.stuck) s.names

-- What a meeting asks of the state, by its soundness.
module _ (w : List ℕ) (a b k : ℕ) (s : St) (f : Meetable w a b k s) where
  abbrev pick : ℕ
  pick = s.waiting.used - suc k

  at : place s pick ≡ k
  at = omega (arith, f.waits)

  waits : pick < s.waiting.used
  waits = omega (arith, f.waits)

  there : picked s pick ≡ (cell a := cell b)
  there = ap (λ k. equation k s.waiting.words) at ∙ f.is

  both-live : LiveSide s (cell a) × LiveSide s (cell b)
  both-live = go f.is (waiting-live (given-sound w f.given) s f.sound k f.waits)
    where
      left : Pair → Plain.Side
      left (x := y) = x

      right : Pair → Plain.Side
      right (x := y) = y

      go : {x y : Plain.Side} → (x := y) ≡ (cell a := cell b) → LiveSide s x × LiveSide s y → LiveSide s (cell a) × LiveSide s (cell b)
      go q l = (subst (LiveSide s) (ap left q) l.0, subst (LiveSide s) (ap right q) l.1)

  symbol-few : (c : ℕ) → 0 < get_or s.symbols c 0 → symbol_of c s < symbols_max
  symbol-few c h = small (get_or s.symbols c 0) h (f.sound.declared c)
    where
      small : (n : ℕ) → 0 < n → n ≤ length (under w).arities → pred n < symbols_max
      small ℕ.zero h l = absurd (omega arith)
      small (ℕ.suc n) h l = omega (arith, (given-sound w f.given).few_symbols)

  pub symbolled : Symbolled w a b s
  symbolled =
      record {
        usable = given-usable w f.given;
        first = record { inside = both-live.0.0; some = both-live.0.1 };
        second = record { inside = both-live.1.0; some = both-live.1.1 };
        left = symbol-few a both-live.0.1;
        right = symbol-few b both-live.1.1;
      }

  module _ (m : Option Match) (told : m ≡ matched (rule_of (under w) a b s)) where
    -- no rule
    step-held : m ≡ None → stepped (under w) s pick ≡ moved (held a b (taken_out k s))
    step-held e =
        step-table f.sound pick waits
        (subst (λ q. Row (under w) (taken_out (place s pick) s) q (held a b (taken_out (place s pick) s))) (sym there)
        (no_rule (found_none (rule_of (under w) a b s) m told e)))
        ∙ ap (λ n. moved (held a b (taken_out n s))) at

    pub stickable : m ≡ None → Stickable a b k s
    stickable e =
        let g = step_sound (given-sound w f.given) f.sound pick (step-held e) in
        record {
          pullable = pullable (given-sound w f.given) s f.sound k f.waits;
          room = g.sizes.stucks;
          left = both-live.0.0;
          right = both-live.1.0;
        }

    pub met-stuck : (q : Kept) (may : Bool) (s' : St) → m ≡ None → Right q s → s' ≡ stuck_on a b k s
        → Meeting (under w) may a b k s (Ok (record { kept = q; interacted = false })) s'
    unfolding Meeting stuck_on put_on out_of_waiting
    met-stuck q may s' e r g =
        let n = found_none (rule_of (under w) a b s) m told e in
        (ap one_made n, meets n ∙ ap moved (sym g), subst (Right q) (sym g) (right_stuck q r))
      where
        meets : rule_of (under w) a b s ≡ none → meet (under w) a b (taken_out k s) ≡ moved (held a b (taken_out k s))
        meets n =
            ap (λ r. elim r as (λ z. Answer) [ none ↦ moved (held a b (taken_out k s)) | straight i e ↦ fire_if e a b (taken_out k s) | turned i e ↦ fire_if e b a (taken_out k s) ]) n

        right_stuck : (q : Kept) → Right q s → Right q (held a b (taken_out k s))
        right_stuck q r =
            record {
              cells = r.cells;
              names = r.names;
              cells_taken = r.cells_taken;
              names_taken = r.names_taken;
              cells_fit = r.cells_fit;
              names_fit = r.names_fit;
            }

    -- a rule
    tested : test_table (Layout.view w) ≡ true
    tested = given-tested w f.given

    pairing : Pairing a b s
    pairing =
        record {
          first = both-live.0.1;
          second = both-live.1.1;
          apart = apart s f.sound pick waits a b there;
          symbols = f.sound.sizes.symbols;
          arguments = f.sound.sizes.arguments;
          names = f.sound.sizes.names;
        }

    pairing-turned : Pairing b a s
    pairing-turned =
        record {
          first = both-live.1.1;
          second = both-live.0.1;
          apart = λ e. apart s f.sound pick waits a b there (sym e);
          symbols = f.sound.sizes.symbols;
          arguments = f.sound.sizes.arguments;
          names = f.sound.sizes.names;
        }

    -- the rule with a number that was found
    found : (i : ℕ) (e : Entry) → FoundAt (under w).rules 0 i e → Ruled w i × (e ≡ entry_at w i)
    unfolding under Coded.machine
    found i e g =
        let n = at_number g in
        (ruled w tested i n.0, sym n.1 ∙ rule_is w tested i n.0)

    straight_at : (i : ℕ) → m ≡ Some (Straight i) → Ruled w i × (rule_of (under w) a b s ≡ straight i (entry_at w i))
    straight_at i e =
        let g = found-straight (rule_of (under w) a b s) m i told e in
        let h = found i g.0 (subst (Finds (under w).rules 0 (symbol_of a s) (symbol_of b s)) g.1 (finds (under w).rules 0 (symbol_of a s) (symbol_of b s))).0 in
        (h.0, g.1 ∙ ap (straight i) h.1)

    turned_at : (i : ℕ) → m ≡ Some (Turned i) → Ruled w i × (rule_of (under w) a b s ≡ turned i (entry_at w i))
    turned_at i e =
        let g = found-turned (rule_of (under w) a b s) m i told e in
        let h = found i g.0 (subst (Finds (under w).rules 0 (symbol_of a s) (symbol_of b s)) g.1 (finds (under w).rules 0 (symbol_of a s) (symbol_of b s))).0 in
        (h.0, g.1 ∙ ap (turned i) h.1)

    pub straight-ready : (i : ℕ) → m ≡ Some (Straight i) → Interactable w i a b k s
    straight-ready i e =
        record {
          ruled = (straight_at i e).0;
          pullable = pullable (given-sound w f.given) s f.sound k f.waits;
          pairing = pairing;
        }

    pub turned-ready : (i : ℕ) → m ≡ Some (Turned i) → Interactable w i b a k s
    turned-ready i e =
        record {
          ruled = (turned_at i e).0;
          pullable = pullable (given-sound w f.given) s f.sound k f.waits;
          pairing = pairing-turned;
        }

    by_rule : (r : Found) → rule_of (under w) a b s ≡ r
        → meet (under w) a b (taken_out k s)
        ≡ elim r as (λ z. Answer) [ none ↦ moved (held a b (taken_out k s)) | straight i e ↦ fire_if e a b (taken_out k s) | turned i e ↦ fire_if e b a (taken_out k s) ]
    by_rule r e =
        ap (λ r. elim r as (λ z. Answer) [ none ↦ moved (held a b (taken_out k s)) | straight i e ↦ fire_if e a b (taken_out k s) | turned i e ↦ fire_if e b a (taken_out k s) ]) e

    pub met-straight : (i : ℕ) (o : Result Made Stop) (may : Bool) (s' : St) → m ≡ Some (Straight i) → Interacting (entry_at w i) may a b k s o s'
        → Meeting (under w) may a b k s o s'
    unfolding Meeting Interacting out_of_waiting
    met-straight i o may s' e = go o
      where
        r : rule_of (under w) a b s ≡ straight i (entry_at w i)
        r = (straight_at i e).1

        counted : (q : Made) → q.interacted ≡ true → may ≡ true → Counted (one_made (rule_of (under w) a b s)) may q.interacted
        counted q y m = subst (Counted (one_made (rule_of (under w) a b s)) may) (sym y) (ap one_made r, m)

        go : (o : Result Made Stop) → Interacting (entry_at w i) may a b k s o s' → Meeting (under w) may a b k s o s'
        go (Ok q) (y, m, g, h) = (counted q y m, by_rule (straight i (entry_at w i)) r ∙ g, h)
        go (Err Ended) g = absurd g
        go (Err Paused) (y, g) = (ap one_made r, y, g)
        go (Err NoRoom) (y, g, h) = (ap one_made r, y, by_rule (straight i (entry_at w i)) r ∙ g, h)

    pub met_turned : (i : ℕ) (o : Result Made Stop) (may : Bool) (s' : St) → m ≡ Some (Turned i) → Interacting (entry_at w i) may b a k s o s'
        → Meeting (under w) may a b k s o s'
    unfolding Meeting Interacting out_of_waiting
    met_turned i o may s' e = go o
      where
        r : rule_of (under w) a b s ≡ turned i (entry_at w i)
        r = (turned_at i e).1

        counted : (q : Made) → q.interacted ≡ true → may ≡ true → Counted (one_made (rule_of (under w) a b s)) may q.interacted
        counted q y m = subst (Counted (one_made (rule_of (under w) a b s)) may) (sym y) (ap one_made r, m)

        go : (o : Result Made Stop) → Interacting (entry_at w i) may b a k s o s' → Meeting (under w) may a b k s o s'
        go (Ok q) (y, m, g, h) = (counted q y m, by_rule (turned i (entry_at w i)) r ∙ g, h)
        go (Err Ended) g = absurd g
        go (Err Paused) (y, g) = (ap one_made r, y, g)
        go (Err NoRoom) (y, g, h) = (ap one_made r, y, by_rule (turned i (entry_at w i)) r ∙ g, h)
