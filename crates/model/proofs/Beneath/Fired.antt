-- The row 'two cells, rule': the state after it is sound, and is read as one Interaction.
use Rattle.std.specs.Prelude.{◌≡◌, refl, List, [], ◌∷◌, ◌++◌, map, ◌⊎◌, ℕ, suc, ◌+◌, ◌*◌, ◌-◌, ◌≤◌, ◌<◌, min, length, get_or, set}
use Rattle.std.proofs.Common.{sym, ◌∙◌, ap, ap₂, subst, append_assoc, inl, inr, arith}
use Rattle.std.proofs.lemmas.List.{length-map}
use Rattle.calculus.specs.Calculus.{interaction, Interaction, Rule, Label, Com, Int}
use Rattle.calculus.specs.Descent.{tally, done, more}
use Rattle.calculus.proofs.Beneath.Count.{δ_same, sum-append, sum_perm, sum-eqs, sum-eqs-append, sum-sub-eqs, sum-terms}
use Rattle.calculus.proofs.Beneath.Count.{sum_ext}
use Rattle.calculus.proofs.Beneath.Perm.{perm_append_right, Ins}
use Rattle.calculus.proofs.Beneath.Rename.{≈_refl}
use Rattle.calculus.proofs.Beneath.Sub.{Sides_equivalence, ≈of}
use Rattle.calculus.specs.Terms.{δ, count, step, Eqn, names, eqs_names, sub_eqn, terms}
use Rattle.parts.specs.Limits.{names_max}
use Rattle.parts.specs.Sides.{Side, cell, Pair, ◌:=◌}
use Rattle.model.specs.State.{St, unpack, pushed_all, used, from, listed}
use Rattle.model.specs.Table.{Cell, Entry, Table, Found, straight, turned, no_cell, entry}
use Rattle.model.specs.Step.{inst_pair, new_cells, new_names, env, alloc, write_symbols}
use Rattle.model.specs.Step.{write_arguments, set_bare, zero_cell, copies, fired, symbol_of}
use Rattle.model.specs.Stepped.{Room}
use Rattle.model.specs.Reading.{ReadsAll, bonds, pool_of, circles, Whole}
use Rattle.model.specs.Sound.{Mutual, cell_at, live, book, AllHeld, mem_of, sides}
use Rattle.model.specs.SoundTable.{SoundEntry, SoundTable}
use Rattle.model.proofs.Beneath.Bonds.{◌≃◌, ≃_of, turn-round}
use Rattle.model.proofs.Beneath.Facts.{length-pushed_all, get_or-pushed_all, unpack-pushed_all}
use Rattle.model.proofs.Beneath.Fire.{Template, two_cells, Fires, Fired, fire}
use Rattle.model.proofs.Beneath.Frame.{Framed, sound_of}
use Rattle.model.proofs.Beneath.Fresh.{bonds_new, mutual_new, held_kept}
use Rattle.model.proofs.Beneath.Moves.{Kind, wiring, Moves, by_turned, by_straight}
use Rattle.model.proofs.Beneath.Parts.{Part, part}
use Rattle.model.proofs.Beneath.Picks.{Picked, pick}
use Rattle.model.proofs.Beneath.Pool.{Good, conf}
use Rattle.model.proofs.Beneath.PoolNet.{names-count, bare_conf}
use Rattle.model.proofs.Beneath.Read.{occurs-below}
use Rattle.model.proofs.Beneath.Store.{length-bare, live-bare}
use Rattle.model.proofs.Beneath.Writing.{free_names, cell_left, cell_right, named_new, places, live_after, stays}
use Rattle.model.proofs.Beneath.Writing.{copied_at, cells_used, symbols-length, arguments-length, arguments-zero}
use Rattle.model.proofs.Beneath.Writing.{symbols-declared, new_once, new_counts, apart, below}

abbrev is_none : Found → ℕ
is_none Found.none = 1
is_none (straight i e) = 0
is_none (turned i e) = 0

abbrev first_is_int : List Label → ℕ
first_is_int [] = 0
first_is_int (Com ∷ l) = 0
first_is_int (Int i ∷ l) = 1

-- Where an Interaction is made, a rule was found.
never : {T : Table} {k : ℕ} {found : Found} {i : ℕ} → Kind T k found (Int i ∷ []) → ¬ (found ≡ Found.none)
never {k = ℕ.zero} (wiring e) o = let z : ◌≡◌ {A = ℕ} 0 1 = ap (tally (λ l. 1)) (sym e) in omega arith
never {k = ℕ.suc k} (wiring e) o = let z : ◌≡◌ {A = ℕ} 0 1 = ap first_is_int (sym e) in omega arith
never (by_straight {i = i} {e = e} h k p) o = let z : ◌≡◌ {A = ℕ} 0 1 = ap is_none o in omega arith
never (by_turned {i = i} {e = e} h k p) o = let z : ◌≡◌ {A = ℕ} 0 1 = ap is_none o in omega arith

module _ {T : Table} (h : SoundTable T) (before st : St) (f : Framed T st) (m : Mutual st.names) {P : List Pair} (g : Good (mem_of T st) (live st.symbols) (sides st.face) P st.names) (same : before.symbols ≡ st.symbols) (one : before.waiting.used ≡ suc st.waiting.used) (i : ℕ) (listed-rule : i < length T.rules) (a b : ℕ) (pair : Pair) (either : (pair ≡ (cell a := cell b)) ⊎ (pair ≡ (cell b := cell a))) (picked : Ins pair (pool_of (listed st.waiting) (listed st.stuck) st.names) P) (of-a : (entry T i).left ≡ symbol_of a st) (of-b : (entry T i).right ≡ symbol_of b st) (room : Room (entry T i) st) (found : Found) (its-kind : Kind T 0 found (Int i ∷ [])) where
  pub fires : Moves T (book T) before (conf names_max g st.loops) found 0 (fired (entry T i) a b st)
  fires = go (fire whole se.proper template steps)
    where
      ar : List ℕ
      ar = T.arities

      ss : List ℕ
      ss = st.symbols

      l : List ℕ
      l = st.arguments

      ns : List ℕ
      ns = st.names

      W : List Pair
      W = listed st.waiting

      K : List Pair
      K = listed st.stuck

      e : Entry
      e = entry T i

      r : Rule
      r = h.rule i

      se : SoundEntry T e r
      se = h.entries i listed-rule

      q : Picked (mem_of T st) pair (pool_of W K ns) g.eqs g.c₁
      q = pick picked g.pool_reads

      pair-cells : (c : ℕ) → δ c a + δ c b ≤ count c q.its
      pair-cells c = by either
        where
          by : (pair ≡ (cell a := cell b)) ⊎ (pair ≡ (cell b := cell a)) → δ c a + δ c b ≤ count c q.its
          by (inl o) =
              let k = two_cells (subst (λ w. ReadsAll (mem_of T st) (w ∷ []) (q.eqn ∷ []) q.its) o q.it) in omega (arith, k.cells c)
          by (inr o) =
              let k = two_cells (subst (λ w. ReadsAll (mem_of T st) (w ∷ []) (q.eqn ∷ []) q.its) o q.it) in omega (arith, k.cells c)

      two : (c : ℕ) → δ c a + δ c b ≤ live ss c
      two c = omega (arith, pair-cells c, q.cells c, g.cells c)

      E : ℕ → Side
      E = env e a b st

      A : ℕ → ℕ
      A = alloc e a b st

      ps : List ℕ
      ps = new_cells e a b st

      xs : List ℕ
      xs = new_names e st

      ks : List Cell
      ks = copies e a b st

      ss' : List ℕ
      ss' = write_symbols ps ks (set (set ss a 0) b 0)

      l' : List ℕ
      l' = write_arguments ps ks (zero_cell b (zero_cell a l))

      ns' : List ℕ
      ns' = set_bare xs ns

      mem' : ℕ → Cell
      mem' = cell_at ar ss' l'

      new_name : ℕ → ℕ
      new_name z = get_or xs (z - 8) 0

      whole : Whole (mem_of T st) (sides st.face) P
      whole = record { terms = g.terms; eqs = g.eqs; c₀ = g.c₀; c₁ = g.c₁; face_reads = g.face_reads; pool_reads = g.pool_reads }

      template : Template r
      template =
          record { cells = λ k. get_or e.cells k no_cell; body = e.body; used = from 0 (length e.cells); reads = se.means.reads }

      steps : Fires whole mem' r template
      steps =
          record {
            a = a;
            b = b;
            rest = pool_of W K ns;
            pair = pair;
            either = either;
            picked = picked;
            env = E;
            alloc = A;
            new_name = new_name;
            left = cell_left h st f i listed-rule a b two room of-a;
            right = cell_right h st f i listed-rule a b two room of-b;
            new = named_new h st f i listed-rule a b two room;
            copied = copied_at h st f i listed-rule a b two room;
            kept = λ c o p t. stays h st f i listed-rule a b two room c (omega (arith, o, g.cells c)) p t;
            once = λ c. omega (arith, g.cells c);
          }

      body' : List Pair
      body' = map (inst_pair E A) e.body

      body-many : length body' ≡ length e.body
      body-many = length-map e.body (inst_pair E A)

      words-fit : 2 * (st.waiting.used + length body') ≤ length st.waiting.words
      words-fit = omega (arith, room.2, body-many, f.sizes.waiting)

      P' : List Pair
      P' = pool_of (unpack (st.waiting.used + length body') (pushed_all st.waiting.used body' st.waiting.words)) K ns'

      P_is : body' ++ pool_of W K ns ≡ P'
      P_is =
          sym (append_assoc body' W (bonds 0 ns ++ K))
          ∙ ap₂
          (λ w n. w ++ (n ++ K))
          (sym (unpack-pushed_all st.waiting.used body' st.waiting.words words-fit))
          (sym (bonds_new xs ns (free_names h st f i listed-rule a b two room)))

      go : Fired whole mem' (body' ++ pool_of W K ns) r template new_name A a b
          → Moves T (book T) before (conf names_max g st.loops) found 0 (fired (entry T i) a b st)
      go F =
          record {
            sound = sound_of frame (mutual_new xs ns (free_names h st f i listed-rule a b two room) m) good;
            labels = Int i ∷ [];
            kind = its-kind;
            read =
                record {
                  state = conf names_max good st.loops;
                  way = more (interaction (listed-rule, se.means) interacts) done;
                  equal = ≈_refl (conf names_max good st.loops);
                };
            cells = omega (arith, cells_used h st f i listed-rule a b two room, ap used same);
            waits = omega (arith, one, body-many, se.few_equations);
            shrinks = λ o. absurd (never its-kind o);
          }
        where
          eqs' : List Eqn
          eqs' = map (sub_eqn F.σ) r.body ++ F.others

          twice : (x : ℕ) → count x (names g.terms) + count x (eqs_names eqs') ≡ 2 * min 1 (get_or ns' x 0)
          twice x =
              let G : ℕ → ℕ = λ z. count x (names (F.σ z)) in
              let D : ℕ → ℕ = λ z. δ x (new_name z) in
              omega (
                arith,
                g.twice x,
                sum-eqs (δ x) F.before,
                sum-append (δ x) (names (terms F.σ r.xs) ++ names (terms F.σ r.ys)) (eqs_names F.others),
                sum-append (δ x) (names (terms F.σ r.xs)) (names (terms F.σ r.ys)),
                sum-terms (δ x) F.σ r.xs,
                sum-terms (δ x) F.σ r.ys,
                sum-eqs-append (δ x) (map (sub_eqn F.σ) r.body) F.others,
                sum-sub-eqs (δ x) F.σ r.body,
                sum_perm G se.proper.linear,
                sum-append G r.xs (r.ys ++ (r.new ++ r.new)),
                sum-append G r.ys (r.new ++ r.new),
                sum-append G r.new r.new,
                sum_ext G D r.new (λ z o. ap (λ t. count x (names t)) (F.chosen z o) ∙ omega arith),
                new_counts h st f i listed-rule a b two room x,
                live-bare xs ns (free_names h st f i listed-rule a b two room) x,
              )

          good : Good mem' (live ss') (sides st.face) P' ns'
          good =
              record {
                terms = g.terms;
                eqs = eqs';
                c₀ = g.c₀;
                c₁ = F.cells_after;
                face_reads = F.face_reads;
                pool_reads = subst (λ p. ReadsAll mem' p eqs' F.cells_after) P_is F.pool_reads;
                cells = λ c. omega (arith, F.cells c, ap (count c) (places h st f i listed-rule a b two room), live_after h st f i listed-rule a b two room c, g.cells c);
                twice = twice;
              }

          interacts : Interaction r (conf names_max g st.loops) (conf names_max good st.loops)
          interacts =
              record {
                σ = F.σ;
                name = new_name;
                chosen = F.chosen;
                choice =
                    record {
                      fresh =
                          λ z o. omega (
                            arith,
                            occurs-below (bare_conf g) names_max st.loops (new_name z) (below h st f i listed-rule a b two room z o),
                            names-count g names_max st.loops f.sizes.names (new_name z),
                            (free_names h st f i listed-rule a b two room).once (new_name z),
                            new_once h st f i listed-rule a b two room z o,
                          );
                      apart = apart h st f i listed-rule a b two room;
                    };
                Δ = F.others ++ circles names_max st.loops;
                before = perm_append_right Sides_equivalence (circles names_max st.loops) F.before;
                after = ≈of (append_assoc (map (sub_eqn F.σ) r.body) F.others (circles names_max st.loops));
                face = refl;
              }

          kept : AllHeld T.rules mem' K
          kept = on (part K order q.they)
            where
              order : pool_of W K ns ≃ K ++ (W ++ bonds 0 ns)
              order = step (≃_of (sym (append_assoc W (bonds 0 ns) K))) (turn-round (W ++ bonds 0 ns) K)

              on : Part (mem_of T st) K (W ++ bonds 0 ns) q.others q.theirs → AllHeld T.rules mem' K
              on p =
                  held_kept
                  T.rules
                  (λ c o.
                  stays h st f i listed-rule a b two room
                  c
                  (omega (arith, o, p.cells c, q.cells c, g.cells c))
                  (λ t. omega (arith, o, p.cells c, q.cells c, g.cells c, pair-cells c, δ_same c, ap (δ c) t))
                  (λ t. omega (arith, o, p.cells c, q.cells c, g.cells c, pair-cells c, δ_same c, ap (δ c) t)))
                  p.it
                  f.stuck

          frame : Framed T (fired e a b st)
          frame =
              record {
                sizes =
                    record {
                      symbols = symbols-length h st f i listed-rule a b two room ∙ f.sizes.symbols;
                      arguments = arguments-length h st f i listed-rule a b two room ∙ f.sizes.arguments;
                      names = length-bare xs ns ∙ f.sizes.names;
                      waiting = length-pushed_all st.waiting.used body' st.waiting.words ∙ f.sizes.waiting;
                      stuck = f.sizes.stuck;
                      face = f.sizes.face;
                      waits = omega (arith, room.2, body-many);
                      stucks = f.sizes.stucks;
                      faces = f.sizes.faces;
                      loops = f.sizes.loops;
                    };
                zeros =
                    record {
                      arguments = arguments-zero h st f i listed-rule a b two room;
                      waiting = λ j o. get_or-pushed_all st.waiting.used body' st.waiting.words j o ∙ f.zeros.waiting j (omega arith);
                      stuck = f.zeros.stuck;
                      face = f.zeros.face;
                    };
                declared = symbols-declared h st f i listed-rule a b two room;
                stuck = kept;
              }
