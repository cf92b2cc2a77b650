-- The rows with a name on a side: the state after them is sound, and is read as no change or some Communications.
use Rattle.std.specs.Prelude.{◌≡◌, refl, List, [], ◌∷◌, ◌++◌, ℕ, suc, ◌+◌, ◌≤◌, ◌<◌, min, length, get_or, set}
use Rattle.std.proofs.Common.{sym, ◌∙◌, ap, ap₂, subst, append-nil, arith, length-set, get_or-set_same, get_or-set_other}
use Rattle.std.proofs.Math.Decide.{ℕ_discrete, dec_lt}
use Rattle.calculus.specs.Calculus.{Book, Step}
use Rattle.calculus.specs.Descent.{Steps}
use Rattle.calculus.specs.Terms.{keep, step, Conf}
use Rattle.parts.specs.Limits.{rule_equations_max, names_max, waiting_max, loops_max}
use Rattle.parts.specs.Sides.{Side, name, cell, Pair, ◌:=◌, side}
use Rattle.parts.specs.Codes.{code-side}
use Rattle.model.specs.State.{St, unpack, pushed, used, bound, bond, with_names, with_loops, listed}
use Rattle.model.specs.Table.{Table, Found}
use Rattle.model.specs.Step.{Answer, moved, refused, put}
use Rattle.model.specs.Follow.{Followed, drop_bond, follow_by, follow, Coms, drops_of}
use Rattle.model.specs.Stepped.{looped, fasten, wire}
use Rattle.model.specs.Reading.{bond_at, bonds, pool_of}
use Rattle.model.specs.Sound.{Mutual, book, Sound, meaning, mem_of, live, sides}
use Rattle.model.specs.SoundTable.{SoundTable}
use Rattle.model.proofs.Beneath.Bonds.{◌≃◌, ≃_refl, ≃_sym, ≃_of, bonds-set, bonds-tie, bonds-join, mutual_set}
use Rattle.model.proofs.Beneath.Bonds.{mutual_join, joined}
use Rattle.model.proofs.Beneath.Facts.{used-set, used-alike, unpack-pushed}
use Rattle.model.proofs.Beneath.Frame.{Framed, frame-loops, sound_of, frame_put, frame-names}
use Rattle.model.proofs.Beneath.Moves.{Outcome, coms-append, coms-cells, coms-interactions, coms-cost}
use Rattle.model.proofs.Beneath.Moves.{steps-append, wiring}
use Rattle.model.proofs.Beneath.Parts.{PairSides}
use Rattle.model.proofs.Beneath.Pool.{regood, Good, conf, in_range, Refit}
use Rattle.model.proofs.Beneath.PoolNet.{same_net, Looped, loops}
use Rattle.model.proofs.Beneath.Read.{Read}
use Rattle.model.proofs.Beneath.Wire.{follows, pool-bonds, Ready, is_cell, Follows}

-- Two ends fastened.
pub record Fastened (T : Table) (B : Book) (symbols : List ℕ) (in-names : ℕ) (waits : ℕ) (C : Conf) (st : St) : Type 0 where
  pub sound : Sound T st
  pub read : Read B C [] (meaning sound)
  pub symbols_kept : st.symbols ≡ symbols
  pub few : st.waiting.used ≤ waits
  pub few_names : used st.names ≤ in-names

abbrev pub FastenedOr : Table → Book → List ℕ → ℕ → ℕ → Conf → Answer → Type 0
FastenedOr T B symbols in-names waits C (moved st) = Fastened T B symbols in-names waits C st
FastenedOr T B symbols in-names waits C (refused n) = Unit {0}

module _ {T : Table} (h : SoundTable T) (st : St) (f : Framed T st) (m : Mutual st.names) {P : List Pair} (g : Good (mem_of T st) (live st.symbols) (sides st.face) P st.names) where
  abbrev W : List Pair
  W = listed st.waiting

  abbrev K : List Pair
  K = listed st.stuck

  abbrev ns : List ℕ
  ns = st.names

  abbrev C₀ : Conf
  C₀ = conf names_max g st.loops

  -- Other words for the names, which are as much in use, and the same pool.
  renamed : (l : List ℕ) → length l ≡ length ns → Mutual l → ((x : ℕ) → min 1 (get_or l x 0) ≡ min 1 (get_or ns x 0))
      → P ≃ pool_of W K l
      → Fastened T (book T) st.symbols (used ns) st.waiting.used C₀ (with_names l st)
  renamed l e j u o = go (regood g l o u)
    where
      go : Refit g (pool_of W K l) l g.eqs
          → Fastened T (book T) st.symbols (used ns) st.waiting.used C₀ (with_names l st)
      go k =
          record {
            sound = sound_of (frame-names f l e) j k.good;
            read = same_net names_max st.loops g k;
            symbols_kept = refl;
            few = omega arith;
            few_names = omega (arith, used-alike l ns e u);
          }

  ties : (x c : ℕ) → P ≃ (name x := cell c) ∷ pool_of W K ns → get_or ns x 0 ≡ 1
      → Fastened T (book T) st.symbols (used ns) st.waiting.used C₀ (with_names (set ns x (bound (cell c))) st)
  ties x c e r =
      renamed
      (set ns x (bound (cell c)))
      (length-set ns x (bound (cell c)))
      (mutual_set ns x (bound (cell c)) here (λ y p. omega (arith, r)) (λ y p. omega arith) m)
      uses
      (step e (≃_sym (pool-bonds W K ((name x := cell c) ∷ []) (set ns x (bound (cell c))) ns (bonds-tie ns x here c r))))
    where
      here : x < length ns
      here = in_range ns x (omega (arith, r))

      uses : (y : ℕ) → min 1 (get_or (set ns x (bound (cell c))) y 0) ≡ min 1 (get_or ns y 0)
      uses y = by (ℕ_discrete y x)
        where
          by : Dec (y ≡ x) → min 1 (get_or (set ns x (bound (cell c))) y 0) ≡ min 1 (get_or ns y 0)
          by (yes d) =
              omega (
                arith,
                r,
                ap (λ i. get_or ns i 0) d,
                ap (λ i. get_or (set ns x (bound (cell c))) i 0) d,
                get_or-set_same ns x (bound (cell c)) 0 here,
              )
          by (no d) = omega (arith, get_or-set_other ns x y (bound (cell c)) 0 d)

  joins : (x y : ℕ) → P ≃ (name x := name y) ∷ pool_of W K ns → get_or ns x 0 ≡ 1 → get_or ns y 0 ≡ 1 → ¬ (x ≡ y)
      → Fastened T (book T) st.symbols (used ns) st.waiting.used C₀ (with_names (joined x y ns) st)
  joins x y e r q n =
      renamed
      (joined x y ns)
      (length-set (set ns x (bound (name y))) y (bound (name x)) ∙ length-set ns x (bound (name y)))
      (mutual_join ns x y here there n r q m)
      uses
      (step e (≃_sym (pool-bonds W K ((name x := name y) ∷ []) (joined x y ns) ns (bonds-join ns x here y there n r q))))
    where
      here : x < length ns
      here = in_range ns x (omega (arith, r))

      there : y < length ns
      there = in_range ns y (omega (arith, q))

      l₁ : List ℕ
      l₁ = set ns x (bound (name y))

      uses : (z : ℕ) → min 1 (get_or (joined x y ns) z 0) ≡ min 1 (get_or ns z 0)
      uses z = by (ℕ_discrete z y) (ℕ_discrete z x)
        where
          by : Dec (z ≡ y) → Dec (z ≡ x) → min 1 (get_or (set l₁ y (bound (name x))) z 0) ≡ min 1 (get_or ns z 0)
          by (yes d) o =
              omega (
                arith,
                q,
                ap (λ i. get_or ns i 0) d,
                ap (λ i. get_or (set l₁ y (bound (name x))) i 0) d,
                get_or-set_same l₁ y (bound (name x)) 0 (omega (arith, there, length-set ns x (bound (name y)))),
              )
          by (no d) (yes o) =
              omega (
                arith,
                r,
                ap (λ i. get_or ns i 0) o,
                get_or-set_other l₁ y z (bound (name x)) 0 d,
                ap (λ i. get_or l₁ i 0) o,
                get_or-set_same ns x (bound (name y)) 0 here,
              )
          by (no d) (no o) = omega (arith, get_or-set_other l₁ y z (bound (name x)) 0 d, get_or-set_other ns x z (bound (name y)) 0 o)

  turns : (x : ℕ) → P ≃ (name x := name x) ∷ pool_of W K ns → get_or ns x 0 ≡ 1
      → FastenedOr T (book T) st.symbols (used ns) st.waiting.used C₀ (looped x st)
  turns x e r = go (dec_lt st.loops loops_max)
    where
      here : x < length ns
      here = in_range ns x (omega (arith, r))

      same : pool_of W K (set ns x 0) ≃ pool_of W K ns
      same =
          pool-bonds
          W
          K
          []
          (set ns x 0)
          ns
          (subst (λ b. b ++ bonds 0 (set ns x 0) ≃ bonds 0 ns) (ap (bond_at x) r) (bonds-set ns x 0 here))

      on : st.loops < loops_max
          → Looped (book T) names_max st.loops g f.sizes.names (pool_of W K (set ns x 0)) (set ns x 0)
          → Fastened T (book T) st.symbols (used ns) st.waiting.used C₀ (with_loops (suc st.loops) (with_names (set ns x 0) st))
      on k o =
          record {
            sound =
                sound_of
                (frame-loops (frame-names f (set ns x 0) (length-set ns x 0)) (suc st.loops) k)
                (mutual_set ns x 0 here (λ y p. omega (arith, r)) (λ y p. omega arith) m)
                o.good;
            read = o.read;
            symbols_kept = refl;
            few = omega arith;
            few_names = omega (arith, used-set ns x 0 here);
          }

      go : (d : Dec (st.loops < loops_max))
          → FastenedOr
          T
          (book T)
          st.symbols
          (used ns)
          st.waiting.used
          C₀
          (elim d [ yes k ↦ moved (with_loops (suc st.loops) (with_names (set ns x 0) st)) | no k ↦ refused 13 ])
      go (yes k) = on k (loops (book T) names_max st.loops g f.sizes.names e same)
      go (no k) = tt

  puts_one : (a b : ℕ) → P ≃ (cell a := cell b) ∷ pool_of W K ns → suc st.waiting.used ≤ waiting_max
      → Fastened T (book T) st.symbols (used ns) (suc st.waiting.used) C₀ (put (cell a := cell b) st)
  puts_one a b e k = go (regood g ns order (λ x. refl))
    where
      order : P ≃ pool_of (unpack (suc st.waiting.used) (pushed st.waiting.used (cell a := cell b) st.waiting.words)) K ns
      order =
          step
          e
          (≃_of (ap (λ l. pool_of l K ns) (sym (unpack-pushed st.waiting.used (cell a := cell b) st.waiting.words (omega (arith, k, f.sizes.waiting))))))

      go : Refit g (pool_of (unpack (suc st.waiting.used) (pushed st.waiting.used (cell a := cell b) st.waiting.words)) K ns) ns g.eqs
          → Fastened T (book T) st.symbols (used ns) (suc st.waiting.used) C₀ (put (cell a := cell b) st)
      go j =
          record {
            sound = sound_of (frame_put f (cell a := cell b) k) m j.good;
            read = same_net names_max st.loops g j;
            symbols_kept = refl;
            few = omega arith;
            few_names = omega arith;
          }

  pub fastened : (s t : Side) → P ≃ (s := t) ∷ pool_of W K ns → Ready ns s → Ready ns t
      → suc st.waiting.used ≤ waiting_max
      → FastenedOr T (book T) st.symbols (used ns) (st.waiting.used + is_cell s) C₀ (fasten s t st)
  fastened (name x) (name y) e r q k = go (ℕ_discrete x y)
    where
      to_here : (a : Answer) → FastenedOr T (book T) st.symbols (used ns) st.waiting.used C₀ a
          → FastenedOr T (book T) st.symbols (used ns) (st.waiting.used + 0) C₀ a
      to_here (moved st') o = record { sound = o.sound; read = o.read; symbols_kept = o.symbols_kept; few = omega (arith, o.few); few_names = o.few_names }
      to_here (refused n) o = tt

      go : (d : Dec (x ≡ y))
          → FastenedOr T (book T) st.symbols (used ns) (st.waiting.used + 0) C₀ (elim d [ yes p ↦ looped x st | no p ↦ moved (with_names (joined x y ns) st) ])
      go (yes p) = to_here (looped x st) (turns x (subst (λ z. P ≃ (name x := name z) ∷ pool_of W K ns) (sym p) e) r)
      go (no p) = to_here (moved (with_names (joined x y ns) st)) (joins x y e r q p)
  fastened (name x) (cell c) e r q k =
      let o = ties x c e r in record { sound = o.sound; read = o.read; symbols_kept = refl; few = omega arith; few_names = o.few_names }
  fastened (cell c) (name y) e r q k =
      let o = ties y c (step e (keep PairSides.turn (≃_refl _))) q in record { sound = o.sound; read = o.read; symbols_kept = refl; few = omega arith; few_names = o.few_names }
  fastened (cell a) (cell b) e r q k =
      let o = puts_one a b e k in record { sound = o.sound; read = o.read; symbols_kept = refl; few = omega arith; few_names = o.few_names }

-- Following a side leaves a bare name bare.
stays_bare : (t : Side) (l : List ℕ) (a : ℕ) → get_or l a 0 ≡ 1 → Mutual l → get_or (follow t l).names a 0 ≡ 1
stays_bare (cell c) l a e m = e
stays_bare (name y) l a e m = go (get_or l y 0) refl
  where
    go : (v : ℕ) → get_or l y 0 ≡ v → get_or (follow_by y l (bond v)).names a 0 ≡ 1
    go ℕ.zero p = e
    go (ℕ.suc ℕ.zero) p = e
    go (ℕ.suc (ℕ.suc w)) p = on (side w) (omega (arith, code-side w))
      where
        apart : ¬ (a ≡ y)
        apart q = omega (arith, p, ap (λ i. get_or l i 0) q)

        on : (s : Side) → get_or l y 0 ≡ bound s → get_or (drop_bond y s l) a 0 ≡ 1
        on (cell c) q = get_or-set_other l y a 0 0 apart ∙ e
        on (name z) q =
            get_or-set_other (set l y 0) z a 1 0 (λ r. omega (arith, (m y z q).0, ap (λ i. get_or l i 0) r)) ∙ get_or-set_other l y a 0 0 apart ∙ e

still_ready : (s t : Side) (l : List ℕ) → Ready l s → Mutual l → Ready (follow t l).names s
still_ready (name a) t l e m = stays_bare t l a e m
still_ready (cell c) t l e m = tt

read_after : {B : Book} {C D E : Conf} (k : ℕ) → Steps (Step B) C (Coms k) D → Read B D [] E → Read B C (Coms k) E
read_after {B} {C} {D} {E} k w r =
    record { state = r.state; way = subst (λ M. Steps (Step B) C M r.state) (append-nil (Coms k)) (steps-append w r.way); equal = r.equal }

-- The rows with a name on a side.
module _ {T : Table} (h : SoundTable T) (before st : St) (f : Framed T st) (m : Mutual st.names) {P : List Pair} (g : Good (mem_of T st) (live st.symbols) (sides st.face) P st.names) (same : before.symbols ≡ st.symbols) (same_names : before.names ≡ st.names) (one : before.waiting.used ≡ suc st.waiting.used) (room : suc st.waiting.used ≤ waiting_max) where
  pub wired : (x : ℕ) (t : Side) → P ≃ (name x := t) ∷ pool_of (listed st.waiting) (listed st.stuck) st.names
      → Outcome T (book T) before (conf names_max g st.loops) Found.none (drops_of (name x) t st.names) (wire (name x) t st)
  wired x t e = go (follows (book T) names_max st.loops g W₁ K₁ (name x) t e m)
    where
      W₁ : List Pair
      W₁ = listed st.waiting

      K₁ : List Pair
      K₁ = listed st.stuck

      F : Followed
      F = follow (name x) st.names

      G : Followed
      G = follow t F.names

      go : Follows (book T) names_max st.loops g W₁ K₁ (name x) t F
          → Outcome T (book T) before (conf names_max g st.loops) Found.none (drops_of (name x) t st.names) (wire (name x) t st)
      go a = on (follows (book T) names_max st.loops a.good W₁ K₁ t F.end (step a.order (keep PairSides.turn (≃_refl _))) a.joins)
        where
          on : Follows (book T) names_max st.loops a.good W₁ K₁ t F.end G
              → Outcome T (book T) before (conf names_max g st.loops) Found.none (drops_of (name x) t st.names) (wire (name x) t st)
          on b =
              last
              (fasten F.end G.end (with_names G.names st))
              (fastened
              h
              (with_names G.names st)
              (frame-names f G.names (b.size ∙ a.size))
              b.joins
              b.good
              F.end
              G.end
              (step b.order (keep PairSides.turn (≃_refl _)))
              (still_ready F.end t F.names a.ready a.joins)
              b.ready
              room)
            where
              k : ℕ
              k = a.coms + b.coms

              way : Steps (Step (book T)) (conf names_max g st.loops) (Coms k) (conf names_max b.good st.loops)
              way =
                  subst
                  (λ M. Steps (Step (book T)) (conf names_max g st.loops) M (conf names_max b.good st.loops))
                  (coms-append a.coms b.coms)
                  (steps-append a.way b.way)

              last : (r : Answer)
                  → FastenedOr T (book T) st.symbols (used G.names) (st.waiting.used + is_cell F.end) (conf names_max b.good st.loops) r
                  → Outcome T (book T) before (conf names_max g st.loops) Found.none (drops_of (name x) t st.names) r
              last (moved st') o =
                  record {
                    sound = o.sound;
                    labels = Coms k;
                    kind = wiring (ap Coms (ap₂ ◌+◌ a.exact b.exact));
                    read = read_after k way o.read;
                    cells = omega (arith, coms-interactions k, coms-cells T k, ap used o.symbols_kept, ap used same);
                    waits = omega (arith, coms-cost rule_equations_max k, o.few, a.paid, one);
                    shrinks = λ e. omega (arith, o.few, a.paid, one, o.few_names, a.uses, b.uses, ap used same_names);
                  }
              last (refused n) o = tt
