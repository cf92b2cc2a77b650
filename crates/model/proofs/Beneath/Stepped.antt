-- Each step from a sound state goes to a sound state, and is one row of the step table: no change, one or two
-- Communications, or one Interaction.
use Rattle.std.specs.Prelude.{◌≡◌, refl, List, [], ◌∷◌, ◌++◌, ◌⊎◌, ℕ, suc, ◌+◌, ◌*◌, ◌-◌, ◌≤◌, ◌<◌, pred, length, get_or}
use Rattle.std.proofs.Common.{sym, ◌∙◌, ap, subst, append_assoc, inl, inr, arith, length-append}
use Rattle.std.proofs.Math.Decide.{dec_lt}
use Rattle.std.proofs.Math.ListN.{get_or-eq_default}
use Rattle.calculus.specs.Calculus.{Int}
use Rattle.calculus.proofs.Beneath.Perm.{Ins, here, there, perm_ins, perm_append_left, perm_shift}
use Rattle.calculus.specs.Terms.{none, keep, step, Terms, Eqn}
use Rattle.parts.specs.Limits.{cells_max, names_max, waiting_max, stuck_max}
use Rattle.parts.specs.Sides.{Side, name, cell, Pair, ◌:=◌}
use Rattle.model.specs.State.{St, equation, unpack, pushed, pulled, used, listed}
use Rattle.model.specs.Table.{Cell, Entry, Table, Found, none, straight, turned, find, no_entry, entry}
use Rattle.model.specs.Decisions.{both}
use Rattle.model.specs.Step.{picked, Answer, moved, refused, taken_out, held, fired}
use Rattle.model.specs.Stepped.{Room, room, fire_if, meet, act, stepped}
use Rattle.model.specs.Step.{symbol_of, rule_of, place, rule_for, rule_at}
use Rattle.model.specs.Reading.{Reads, by_cell, ReadsAll, no_pairs, pairs, bonds, pool_of}
use Rattle.model.specs.Sound.{Mutual, live, book, Sound, Held, AllHeld, mem_of, meaning, sides}
use Rattle.model.specs.SoundTable.{SoundTable}
use Rattle.model.specs.Follow.{drops}
use Rattle.model.proofs.Beneath.Bonds.{◌≃◌, ≃_refl, ≃_sym, ≃_of, turn-round}
use Rattle.model.proofs.Beneath.Facts.{length-pushed, get_or-pushed, unpack-pushed, length-pulled, pulled-above}
use Rattle.model.proofs.Beneath.Facts.{unpack-pulled}
use Rattle.model.proofs.Beneath.Fired.{fires}
use Rattle.model.proofs.Beneath.Frame.{frame-waiting, Framed, good_of, framed_of, sound_of}
use Rattle.model.proofs.Beneath.Moves.{Outcome, Kind, wiring, Moves, by_straight, by_turned}
use Rattle.model.proofs.Beneath.Parts.{PairSides, PairSides_equivalence, Part, part}
use Rattle.model.proofs.Beneath.Pool.{regood, Good, conf, Refit}
use Rattle.model.proofs.Beneath.PoolNet.{same_net}
use Rattle.model.proofs.Beneath.Store.{pigeon}
use Rattle.model.proofs.Beneath.Wired.{wired}

-- What a search for a rule finds.
abbrev pub For : ℕ → ℕ → Entry → Type 0
For s u e = (e.left ≡ s) × (e.right ≡ u)

pub record FoundAt (rs : List Entry) (j i : ℕ) (e : Entry) : Type 0 where
  pub at : ℕ
  pub inside : at < length rs
  pub number : i ≡ j + at
  pub is : get_or rs at no_entry ≡ e

abbrev pub Finds : List Entry → ℕ → ℕ → ℕ → Found → Type 0
Finds rs j s u none = (k : ℕ) → k < length rs → (For s u (get_or rs k no_entry) → ⊥) × (For u s (get_or rs k no_entry) → ⊥)
Finds rs j s u (straight i e) = FoundAt rs j i e × For s u e
Finds rs j s u (turned i e) = FoundAt rs j i e × For u s e

later : {rs : List Entry} {d : Entry} {j i : ℕ} {e : Entry} → FoundAt rs (suc j) i e → FoundAt (d ∷ rs) j i e
later f = record { at = suc f.at; inside = omega (arith, f.inside); number = omega (arith, f.number); is = f.is }

more : (rs : List Entry) (d : Entry) (j s u : ℕ) → (For s u d → ⊥) → (For u s d → ⊥) → (r : Found)
    → Finds rs (suc j) s u r → Finds (d ∷ rs) j s u r
more rs d j s u p q none f = none_more f
  where
    none_more : Finds rs (suc j) s u none → Finds (d ∷ rs) j s u none
    none_more f ℕ.zero h = (p, q)
    none_more f (ℕ.suc k) h = f k (omega arith)
more rs d j s u p q (straight i e) f = (later f.0, f.1)
more rs d j s u p q (turned i e) f = (later f.0, f.1)

pub finds : (rs : List Entry) (j s u : ℕ) → Finds rs j s u (find rs j s u)
finds [] j s u = λ k h. absurd (omega arith)
finds (e ∷ rs) j s u = go (both s u e.left e.right) (both s u e.right e.left) (finds rs (suc j) s u)
  where
    first : FoundAt (e ∷ rs) j j e
    first = record { at = 0; inside = omega arith; number = omega arith; is = refl }

    go : (c : Dec ((s ≡ e.left) × (u ≡ e.right))) (d : Dec ((s ≡ e.right) × (u ≡ e.left)))
        → Finds rs (suc j) s u (find rs (suc j) s u)
        → Finds
        (e ∷ rs)
        j
        s
        u
        (elim c [ yes p ↦ straight j e | no p ↦ elim d [ yes q ↦ turned j e | no q ↦ find rs (suc j) s u ] ])
    go (yes p) d f = (first, (sym p.0, sym p.1))
    go (no p) (yes q) f = (first, (sym q.1, sym q.0))
    go (no p) (no q) f =
        more rs e j s u (λ k. p (sym k.0, sym k.1)) (λ k. q (sym k.1, sym k.0)) (find rs (suc j) s u) f

-- Room for stuck pairs: each has two cells of its own.
unpack-length : (n : ℕ) (l : List ℕ) → length (unpack n l) ≡ n
unpack-length ℕ.zero l = refl
unpack-length (ℕ.suc n) l = ap suc (unpack-length n l)

two_met : {mem : ℕ → Cell} {a b : ℕ} {ts : Terms} {cs : List ℕ} → Reads mem (cell a ∷ cell b ∷ []) ts cs
    → 2 ≤ length cs
two_met {b = b} (by_cell {ds = ds} e q (by_cell {ds = es} e' q' Reads.none)) = omega (arith, length-append ds (b ∷ (es ++ [])))

two_each : {mem : ℕ → Cell} (rs : List Entry) {l : List Pair} {m : List Eqn} {cs : List ℕ} → ReadsAll mem l m cs
    → AllHeld rs mem l → 2 * length l ≤ length cs
two_each rs no_pairs h = omega arith
two_each {mem} rs (pairs {a = a} {b = b} {cs = cs} {ds = ds} r w) h = omega (arith, on a b r h.0, two_each rs w h.1, length-append cs ds)
  where
    on : (a b : Side) {ts : Terms} → Reads mem (a ∷ b ∷ []) ts cs → Held rs mem (a := b) → 2 ≤ length cs
    on (name x) b r p = absurd p
    on (cell x) (name y) r p = absurd p
    on (cell x) (cell y) r p = two_met r

half : (n : ℕ) → 2 * n ≤ cells_max → n ≤ stuck_max
half n h = let e : cells_max ≡ 2 * stuck_max = refl in omega (arith, e)

front : (W B K : List Pair) (p : Pair) → p ∷ (W ++ (B ++ K)) ≃ W ++ (B ++ (p ∷ K))
front W B K p =
    ≃_sym
    (step
    (perm_append_left PairSides_equivalence W (perm_shift PairSides_equivalence B p K))
    (perm_shift PairSides_equivalence W p (B ++ K)))

pub ins_append : {A : Type 0} {a : A} {l m : List A} (r : List A) → Ins a l m → Ins a (l ++ r) (m ++ r)
ins_append r here = here
ins_append r (there i) = there (ins_append r i)

module _ {T : Table} (h : SoundTable T) (before st : St) (f : Framed T st) (m : Mutual st.names) {P : List Pair} (g : Good (mem_of T st) (live st.symbols) (sides st.face) P st.names) (same : before.symbols ≡ st.symbols) (same_names : before.names ≡ st.names) (one : before.waiting.used ≡ suc st.waiting.used) (a b : ℕ) (picked : Ins (cell a := cell b) (pool_of (listed st.waiting) (listed st.stuck) st.names) P) where
  abbrev W : List Pair
  W = listed st.waiting

  abbrev K : List Pair
  K = listed st.stuck

  abbrev Out : Found → Answer → Type 0
  Out r a = Outcome T (book T) before (conf names_max g st.loops) r 0 a

  order : P ≃ (cell a := cell b) ∷ pool_of W K st.names
  order = ≃_sym (perm_ins PairSides_equivalence picked)

  -- Two cells with no rule.
  holds : find T.rules 0 (symbol_of a st) (symbol_of b st) ≡ none → Out none (moved (held a b st))
  holds no_rule = go (part ((cell a := cell b) ∷ K) parted g.pool_reads)
    where
      stuck' : List ℕ
      stuck' = pushed st.stuck.used (cell a := cell b) st.stuck.words

      held_now : AllHeld T.rules (mem_of T st) ((cell a := cell b) ∷ K)
      held_now = (no_rule, f.stuck)

      parted : P ≃ ((cell a := cell b) ∷ K) ++ (W ++ bonds 0 st.names)
      parted =
          step
          order
          (keep PairSides.same (step (≃_of (sym (append_assoc W (bonds 0 st.names) K))) (turn-round (W ++ bonds 0 st.names) K)))

      go : Part (mem_of T st) ((cell a := cell b) ∷ K) (W ++ bonds 0 st.names) g.eqs g.c₁
          → Moves T (book T) before (conf names_max g st.loops) none 0 (held a b st)
      go p = last (regood g st.names reordered (λ x. refl))
        where
          outside : (c : ℕ) → cells_max ≤ c → get_or st.symbols c 0 ≡ 0
          outside c o = get_or-eq_default st.symbols 0 {n = c} (omega (arith, f.sizes.symbols))

          room_left : suc st.stuck.used ≤ stuck_max
          room_left =
              half
              (suc st.stuck.used)
              (omega (
                arith,
                two_each T.rules p.it held_now,
                unpack-length st.stuck.used st.stuck.words,
                pigeon cells_max p.its (λ c. omega (arith, p.cells c, g.cells c)) (λ c o. omega (arith, p.cells c, g.cells c, outside c o)),
              ))

          unpacked : unpack (suc st.stuck.used) stuck' ≡ (cell a := cell b) ∷ K
          unpacked = unpack-pushed st.stuck.used (cell a := cell b) st.stuck.words (omega (arith, room_left, f.sizes.stuck))

          reordered : P ≃ pool_of W (unpack (suc st.stuck.used) stuck') st.names
          reordered = step order (step (front W (bonds 0 st.names) K (cell a := cell b)) (≃_of (ap (λ k. pool_of W k st.names) (sym unpacked))))

          last : Refit g (pool_of W (unpack (suc st.stuck.used) stuck') st.names) st.names g.eqs
              → Moves T (book T) before (conf names_max g st.loops) none 0 (held a b st)
          last k =
              record {
                sound =
                    sound_of
                    (record {
                      sizes =
                          record {
                            symbols = f.sizes.symbols;
                            arguments = f.sizes.arguments;
                            names = f.sizes.names;
                            waiting = f.sizes.waiting;
                            stuck = length-pushed st.stuck.used (cell a := cell b) st.stuck.words ∙ f.sizes.stuck;
                            face = f.sizes.face;
                            waits = f.sizes.waits;
                            stucks = room_left;
                            faces = f.sizes.faces;
                            loops = f.sizes.loops;
                          };
                      zeros =
                          record {
                            arguments = f.zeros.arguments;
                            waiting = f.zeros.waiting;
                            stuck =
                                λ i o.
                                get_or-pushed st.stuck.used (cell a := cell b) st.stuck.words i (λ e. omega arith) (λ e. omega arith)
                                ∙ f.zeros.stuck i (omega arith);
                            face = f.zeros.face;
                          };
                      declared = f.declared;
                      stuck = subst (AllHeld T.rules (mem_of T st)) (sym unpacked) held_now;
                    })
                    m
                    k.good;
                labels = [];
                kind = wiring refl;
                read = same_net names_max st.loops g k;
                cells = omega (arith, ap used same);
                waits = omega (arith, one);
                shrinks = λ e. omega (arith, one, ap used same_names);
              }

  -- Two cells with a rule, if there is room.
  firing : (i : ℕ) (x y : ℕ) → i < length T.rules
      → ((cell a := cell b) ≡ (cell x := cell y)) ⊎ ((cell a := cell b) ≡ (cell y := cell x))
      → (entry T i).left ≡ symbol_of x st → (entry T i).right ≡ symbol_of y st → (found : Found)
      → Kind T 0 found (Int i ∷ []) → Out found (fire_if (entry T i) x y st)
  firing i x y k o p q found kind = go (room (entry T i) st)
    where
      go : (d : Dec (Room (entry T i) st))
          → Out found (elim d [ yes r ↦ moved (fired (entry T i) x y st) | no r ↦ refused 13 ])
      go (yes r) = fires h before st f m g same one i k x y (cell a := cell b) o picked p q r found kind
      go (no r) = tt

  meets : Out (rule_of T a b st) (meet T a b st)
  meets = go (rule_of T a b st) refl (finds T.rules 0 (symbol_of a st) (symbol_of b st))
    where
      number : {i : ℕ} {e : Entry} {A : Type 0} → (q : FoundAt T.rules 0 i e × A) → i ≡ q.0.at
      number q = omega (arith, q.0.number)

      go : (r : Found) → rule_of T a b st ≡ r → Finds T.rules 0 (symbol_of a st) (symbol_of b st) r
          → Out r (elim r [ none ↦ moved (held a b st) | straight i e ↦ fire_if e a b st | turned i e ↦ fire_if e b a st ])
      go none p q = holds p
      go (straight i e) p q =
          subst
          (λ d. Out (straight i e) (fire_if d a b st))
          q.0.is
          (firing
          q.0.at
          a
          b
          q.0.inside
          (inl refl)
          (ap (λ d. d.left) q.0.is ∙ q.1.0)
          (ap (λ d. d.right) q.0.is ∙ q.1.1)
          (straight i e)
          (by_straight (omega (arith, q.0.inside, q.0.number)) (ap (entry T) (number q) ∙ q.0.is) (ap (λ n. Int n ∷ []) (sym (number q)))))
      go (turned i e) p q =
          subst
          (λ d. Out (turned i e) (fire_if d b a st))
          q.0.is
          (firing
          q.0.at
          b
          a
          q.0.inside
          (inr refl)
          (ap (λ d. d.left) q.0.is ∙ q.1.0)
          (ap (λ d. d.right) q.0.is ∙ q.1.1)
          (turned i e)
          (by_turned (omega (arith, q.0.inside, q.0.number)) (ap (entry T) (number q) ∙ q.0.is) (ap (λ n. Int n ∷ []) (sym (number q)))))

-- For every pick.
pub step_is_right : {T : Table} (h : SoundTable T) (st : St) (s : Sound T st) (p : ℕ)
    → Outcome T (book T) st (meaning s) (rule_at T st p) (drops (picked st p) st.names) (stepped T st p)
unfolding stepped
step_is_right {T} h st s p = go (dec_lt p st.waiting.used)
  where
    f : Framed T st
    f = framed_of s

    k : ℕ
    k = place st p

    st₁ : St
    st₁ = taken_out k st

    K₁ : List Pair
    K₁ = listed st.stuck

    P : List Pair
    P = pool_of (listed st.waiting) K₁ st.names

    on : p < st.waiting.used → (pr : Pair) → Ins pr (pool_of (listed st₁.waiting) K₁ st.names) P
        → Outcome T (book T) st (meaning s) (rule_for T pr st) (drops pr st.names) (act T pr st₁)
    on o = by
      where
        frame₁ : Framed T st₁
        frame₁ =
            frame-waiting
            f
            (pred st.waiting.used)
            (pulled k st.waiting.words)
            (omega (arith, f.sizes.waits))
            (length-pulled k st.waiting.words (omega (arith, f.sizes.waits, f.sizes.waiting)))
            (λ i n.
            let e : i ≡ 2 * k + (i - 2 * k) = omega arith in
            ap (λ j. get_or (pulled k st.waiting.words) j 0) e
            ∙ pulled-above k st.waiting.words (i - 2 * k) (omega (arith, f.sizes.waits, f.sizes.waiting))
            ∙ f.zeros.waiting (2 + (2 * k + (i - 2 * k))) (omega arith))

        one : st.waiting.used ≡ suc (pred st.waiting.used)
        one = omega arith

        some_room : suc (pred st.waiting.used) ≤ waiting_max
        some_room = omega (arith, f.sizes.waits)

        by : (pr : Pair) → Ins pr (pool_of (listed st₁.waiting) K₁ st.names) P
            → Outcome T (book T) st (meaning s) (rule_for T pr st) (drops pr st.names) (act T pr st₁)
        by (name x := t) i =
            wired h st st₁ frame₁ s.joins (good_of s) refl refl one some_room x t (≃_sym (perm_ins PairSides_equivalence i))
        by (cell a := name y) i =
            wired
            h
            st
            st₁
            frame₁
            s.joins
            (good_of s)
            refl
            refl
            one
            some_room
            y
            (cell a)
            (step (≃_sym (perm_ins PairSides_equivalence i)) (keep PairSides.turn (≃_refl _)))
        by (cell a := cell b) i = meets h st st₁ frame₁ s.joins (good_of s) refl refl one a b i

    here_it_is : p < st.waiting.used
        → Ins (equation k st.waiting.words) (pool_of (listed st₁.waiting) K₁ st.names) P
    here_it_is o =
        ins_append
        (bonds 0 st.names ++ K₁)
        (subst
        (λ n. Ins (equation k st.waiting.words) (unpack (pred st.waiting.used) (pulled k st.waiting.words)) (unpack n st.waiting.words))
        (let e : suc (pred st.waiting.used) ≡ st.waiting.used = omega arith in e)
        (unpack-pulled k (pred st.waiting.used) st.waiting.words (omega arith) (omega (arith, f.sizes.waits, f.sizes.waiting))))

    go : (d : Dec (p < st.waiting.used))
        → Outcome T (book T) st (meaning s) (rule_at T st p) (drops (picked st p) st.names) (elim d [ yes o ↦ act T (equation k st.waiting.words) st₁ | no o ↦ refused 12 ])
    go (yes o) = on o (equation k st.waiting.words) (here_it_is o)
    go (no o) = tt
