-- In a sound state, each side that is held anywhere is a name or a cell in use. (These are the facts by which code
-- indexes its arrays.)
use Rattle.std.specs.Prelude.{◌≡◌, refl, List, [], ◌∷◌, ◌++◌, map, ◌⊎◌, get_or, take, drop}
use Rattle.std.proofs.Common.{sym, ◌∙◌, ap, subst, inl, inr, arith, length-drop, get_or-take, get_or-drop}
use Prim.Native.Nat.{ℕ, suc, ◌+◌, ◌*◌, ◌≤◌, ◌<◌, pred}
use Rattle.std.proofs.Math.Decide.{dec_lt}
use Rattle.std.proofs.Math.ListN.{length, length-map, get_or-map}
use Rattle.std.proofs.Math.Seq.{length-take-le}
use Rattle.calculus.proofs.Beneath.Count.{δ_same, δ-cases, sum-append, sum-eqs, sum-eqs-append}
use Rattle.calculus.proofs.Beneath.Perm.{Ins, perm_ins, perm_append_right, perm_append_left, perm_exchange}
use Rattle.calculus.specs.Terms.{δ, count, step, var, node, nil, cons, Terms, Eqn, names, eqs_names}
use Rattle.parts.specs.Sides.{Side, name, cell, Pair, ◌:=◌, side}
use Rattle.model.specs.State.{St, equation, unpack, pulled, bound, listed}
use Rattle.model.specs.Table.{Cell, Table}
use Rattle.model.specs.Follow.{drop_bond}
use Rattle.model.specs.Reading.{Reads, by_name, by_cell, ReadsAll, no_pairs, pairs, bonds, pool_of}
use Rattle.model.specs.Sound.{width, Sound, mem_of, sides, pool}
use Rattle.model.specs.SoundTable.{SoundTable}
use Rattle.model.proofs.Beneath.Bonds.{◌≃◌, ≃_sym, Within, bonds-drop}
use Rattle.model.proofs.Beneath.Cellwork.{width_small}
use Rattle.model.proofs.Beneath.Facts.{unpack-pulled}
use Rattle.model.proofs.Beneath.Frame.{GoodState, good_of}
use Rattle.model.proofs.Beneath.Parts.{PairSides_equivalence, Part, part}
use Rattle.model.proofs.Beneath.Pool.{in_range}
use Rattle.model.proofs.Beneath.Stepped.{ins_append}
use Rattle.model.specs.Ranges.{LiveSide}

-- A side is met in what is read.
abbrev Met : Side → Terms → List ℕ → Type 0
Met (name x) ts cs = 0 < count x (names ts)
Met (cell c) ts cs = 0 < count c cs

met : {mem : ℕ → Cell} {ss : List Side} {ts : Terms} {cs : List ℕ} → Reads mem ss ts cs → (i : ℕ) → i < length ss
    → Met (get_or ss i (name 0)) ts cs
met Reads.none i h = absurd (omega arith)
met (by_name {x = x} r) ℕ.zero h = omega (arith, δ_same x)
met (by_cell {c = c} e q r) ℕ.zero h = omega (arith, δ_same c)
met (by_name {x = x} {ss = ss} {ts = ts} {cs = cs} r) (ℕ.suc i) h = on (get_or ss i (name 0)) (met r i (omega arith))
  where
    on : (s : Side) → Met s ts cs → Met s (cons (var x) ts) cs
    on (name y) k = omega arith
    on (cell d) k = k
met (by_cell {c = c} {k = w} {ss = ss} {us = us} {ts = ts} {ds = ds} {cs = cs} e q r) (ℕ.suc i) h = on (get_or ss i (name 0)) (met r i (omega arith))
  where
    on : (s : Side) → Met s ts cs → Met s (cons (node w.symbol us) ts) (c ∷ (ds ++ cs))
    on (name y) k = omega (arith, sum-append (δ y) (names us) (names ts))
    on (cell d) k = omega (arith, sum-append (δ d) ds cs)

-- The arguments of a cell that is met are read too.
record Inner (mem : ℕ → Cell) (c : ℕ) (xs : List ℕ) (cs : List ℕ) : Type 0 where
  pub us : Terms
  pub ds : List ℕ
  pub reads : Reads mem (mem c).args us ds
  pub cells : (d : ℕ) → count d ds ≤ count d cs
  pub names_too : (x : ℕ) → count x (names us) ≤ count x xs

inner : {mem : ℕ → Cell} {ss : List Side} {ts : Terms} {cs : List ℕ} → Reads mem ss ts cs → (c : ℕ) → 0 < count c cs
    → Inner mem c (names ts) cs
inner Reads.none c h = absurd (omega arith)
inner (by_name {x = x} r) c h =
    let k = inner r c h in
    record { us = k.us; ds = k.ds; reads = k.reads; cells = k.cells; names_too = λ y. omega (arith, k.names_too y) }
inner {mem} (by_cell {c = b} {k = w} {us = us} {ts = ts} {ds = ds} {cs = cs} e q r) c h = go (δ-cases c b) (λ k. inner q c k) (λ k. inner r c k)
  where
    go : ((c ≡ b) × (δ c b ≡ 1)) ⊎ ((¬ (c ≡ b)) × (δ c b ≡ 0)) → (0 < count c ds → Inner mem c (names us) ds)
        → (0 < count c cs → Inner mem c (names ts) cs)
        → Inner mem c (names us ++ names ts) (b ∷ (ds ++ cs))
    go (inl p) f f' =
        record {
          us = us;
          ds = ds;
          reads = subst (λ k. Reads mem k.args us ds) (sym (ap mem p.0 ∙ e)) q;
          cells = λ d. omega (arith, sum-append (δ d) ds cs);
          names_too = λ y. omega (arith, sum-append (δ y) (names us) (names ts));
        }
    go (inr p) f f' = on (dec_lt 0 (count c ds))
      where
        on : Dec (0 < count c ds) → Inner mem c (names us ++ names ts) (b ∷ (ds ++ cs))
        on (yes o) =
            let k = f o in
            record {
              us = k.us;
              ds = k.ds;
              reads = k.reads;
              cells = λ d. omega (arith, k.cells d, sum-append (δ d) ds cs);
              names_too = λ y. omega (arith, k.names_too y, sum-append (δ y) (names us) (names ts));
            }
        on (no o) =
            let k = f' (omega (arith, p.1, sum-append (δ c) ds cs)) in
            record {
              us = k.us;
              ds = k.ds;
              reads = k.reads;
              cells = λ d. omega (arith, k.cells d, sum-append (δ d) ds cs);
              names_too = λ y. omega (arith, k.names_too y, sum-append (δ y) (names us) (names ts));
            }

inner_all : {mem : ℕ → Cell} {l : List Pair} {m : List Eqn} {cs : List ℕ} → ReadsAll mem l m cs → (c : ℕ)
    → 0 < count c cs → Inner mem c (eqs_names m) cs
inner_all no_pairs c h = absurd (omega arith)
inner_all {mem} (pairs {t = t} {u = u} {cs = cs} {ds = ds} {m = m} r w) c h = go (dec_lt 0 (count c cs)) (λ k. inner_all w c k)
  where
    go : Dec (0 < count c cs) → (0 < count c ds → Inner mem c (eqs_names m) ds)
        → Inner mem c ((names t ++ names u) ++ eqs_names m) (cs ++ ds)
    go (yes o) f =
        let k = inner r c o in
        record {
          us = k.us;
          ds = k.ds;
          reads = k.reads;
          cells = λ d. omega (arith, k.cells d, sum-append (δ d) cs ds);
          names_too = λ y. omega (
            arith,
            k.names_too y,
            sum-append (δ y) (names t ++ names u) (eqs_names m),
            sum-append (δ y) (names t) (names u),
            sum-append (δ y) (names t) (names u ++ []),
            sum-append (δ y) (names u) [],
          );
        }
    go (no o) f =
        let k = f (omega (arith, h, sum-append (δ c) cs ds)) in
        record {
          us = k.us;
          ds = k.ds;
          reads = k.reads;
          cells = λ d. omega (arith, k.cells d, sum-append (δ d) cs ds);
          names_too = λ y. omega (arith, k.names_too y, sum-append (δ y) (names t ++ names u) (eqs_names m));
        }

module _ {T : Table} (h : SoundTable T) (st : St) (s : Sound T st) where
  abbrev g : GoodState T st
  g = good_of s

  live-name : (x : ℕ) → 0 < count x (names g.terms) + count x (eqs_names g.eqs) → LiveSide st (name x)
  live-name x o =
      let p : 0 < get_or st.names x 0 = omega (arith, s.twice x) in
      (omega (arith, in_range st.names x p, s.sizes.names), p)

  live-cell : (c : ℕ) → 0 < count c g.c₀ + count c g.c₁ → LiveSide st (cell c)
  live-cell c o =
      let p : 0 < get_or st.symbols c 0 = omega (arith, s.once c) in
      (omega (arith, in_range st.symbols c p, s.sizes.symbols), p)

  -- Both sides of an equation of the pool.
  pair-live : (a b : Side) (R : List Pair)
      → pool st ≃ (a := b) ∷ R
      → LiveSide st a × LiveSide st b
  pair-live a b R e = go (part ((a := b) ∷ []) e s.reads.pool_reads)
    where
      go : Part (mem_of T st) ((a := b) ∷ []) R s.reads.eqs s.reads.c₁ → LiveSide st a × LiveSide st b
      go p = on p.eqs p.its p.it refl refl
        where
          on : (m : List Eqn) (cs : List ℕ) → ReadsAll (mem_of T st) ((a := b) ∷ []) m cs → p.eqs ≡ m → p.its ≡ cs
              → LiveSide st a × LiveSide st b
          on m cs (pairs {t = t} {u = u} {cs = ds} r no_pairs) i j = (by a (met r 0 (omega arith)), by b (met r 1 (omega arith)))
            where
              by : (w : Side) → Met w (cons t (cons u nil)) ds → LiveSide st w
              by (name x) o =
                  live-name
                  x
                  (omega (
                    arith,
                    sum-eqs (δ x) p.order,
                    sum-eqs-append (δ x) p.eqs p.others,
                    ap (λ z. count x (eqs_names z)) i,
                    sum-append (δ x) (names t ++ names u) [],
                    sum-append (δ x) (names t) (names u),
                    sum-append (δ x) (names t) (names u ++ []),
                    sum-append (δ x) (names u) [],
                  ))
              by (cell c) o = live-cell c (omega (arith, p.cells c, ap (count c) j, sum-append (δ c) ds []))

  -- Waiting equations and stuck pairs, by number from the start.
  pub waiting-live : (k : ℕ) → k < st.waiting.used
      → LiveSide st (side (get_or st.waiting.words (2 * k) 0)) × LiveSide st (side (get_or st.waiting.words (1 + 2 * k) 0))
  waiting-live k o =
      pair-live
      (side (get_or st.waiting.words (2 * k) 0))
      (side (get_or st.waiting.words (1 + 2 * k) 0))
      (pool_of (unpack (pred st.waiting.used) (pulled k st.waiting.words)) (listed st.stuck) st.names)
      (≃_sym
      (perm_ins
      PairSides_equivalence
      (ins_append
      (bonds 0 st.names ++ listed st.stuck)
      (subst
      (λ n. Ins (equation k st.waiting.words) (unpack (pred st.waiting.used) (pulled k st.waiting.words)) (unpack n st.waiting.words))
      (let e : suc (pred st.waiting.used) ≡ st.waiting.used = omega arith in e)
      (unpack-pulled k (pred st.waiting.used) st.waiting.words (omega arith) (omega (arith, s.sizes.waits, s.sizes.waiting)))))))

  pub stuck-live : (k : ℕ) → k < st.stuck.used
      → LiveSide st (side (get_or st.stuck.words (2 * k) 0)) × LiveSide st (side (get_or st.stuck.words (1 + 2 * k) 0))
  stuck-live k o =
      pair-live
      (side (get_or st.stuck.words (2 * k) 0))
      (side (get_or st.stuck.words (1 + 2 * k) 0))
      (W ++ (bonds 0 st.names ++ K'))
      (step
      (perm_append_left PairSides_equivalence W (perm_append_left PairSides_equivalence (bonds 0 st.names) (≃_sym (perm_ins PairSides_equivalence inside))))
      (step
      (perm_append_left PairSides_equivalence W (perm_exchange PairSides_equivalence (bonds 0 st.names) (equation k st.stuck.words ∷ []) K'))
      (perm_exchange PairSides_equivalence W (equation k st.stuck.words ∷ []) (bonds 0 st.names ++ K'))))
    where
      W : List Pair
      W = listed st.waiting

      K' : List Pair
      K' = unpack (pred st.stuck.used) (pulled k st.stuck.words)

      inside : Ins (equation k st.stuck.words) K' (listed st.stuck)
      inside =
          subst
          (λ n. Ins (equation k st.stuck.words) K' (unpack n st.stuck.words))
          (let e : suc (pred st.stuck.used) ≡ st.stuck.used = omega arith in e)
          (unpack-pulled k (pred st.stuck.used) st.stuck.words (omega arith) (omega (arith, s.sizes.stucks, s.sizes.stuck)))

  -- What a name is tied or joined to.
  pub bond-live : (x : ℕ) (t : Side) → get_or st.names x 0 ≡ bound t → LiveSide st t
  bond-live x t e =
      (pair-live
      (name x)
      t
      (W ++ (bonds 0 (drop_bond x t st.names) ++ K))
      (step
      (perm_append_left PairSides_equivalence W (perm_append_right PairSides_equivalence K (bonds-drop st.names x inside t (within t e) s.joins e)))
      (perm_exchange PairSides_equivalence W ((name x := t) ∷ []) (bonds 0 (drop_bond x t st.names) ++ K)))).1
    where
      W : List Pair
      W = listed st.waiting

      K : List Pair
      K = listed st.stuck

      inside : x < length st.names
      inside = in_range st.names x (omega (arith, e))

      within : (t : Side) → get_or st.names x 0 ≡ bound t → Within (length st.names) t
      within (name y) q = in_range st.names y (omega (arith, (s.joins x y q).0))
      within (cell c) q = tt

  -- Interface terms.
  pub face-live : (k : ℕ) → k < st.face.used → LiveSide st (side (get_or st.face.words k 0))
  unfolding side
  face-live k o = on (side (get_or st.face.words k 0)) (subst (λ w. Met w s.reads.terms s.reads.c₀) at (met s.reads.face_reads k (omega (arith, many))))
    where
      many : length (sides st.face) ≡ st.face.used
      many = length-map (take st.face.used st.face.words) side ∙ length-take-le st.face.used st.face.words (omega (arith, s.sizes.faces, s.sizes.face))

      at : get_or (sides st.face) k (name 0) ≡ side (get_or st.face.words k 0)
      at = get_or-map side (take st.face.used st.face.words) k 0 ∙ ap side (get_or-take st.face.used st.face.words k 0 o)

      on : (w : Side) → Met w s.reads.terms s.reads.c₀ → LiveSide st w
      on (name x) q = live-name x (omega arith)
      on (cell c) q = live-cell c (omega arith)

  -- Arguments of a cell in use.
  pub argument_live : (c k : ℕ) → 0 < get_or st.symbols c 0 → k < width T.arities (get_or st.symbols c 0)
      → LiveSide st (side (get_or st.arguments (4 * c + k) 0))
  unfolding side
  argument_live c k o w = go (dec_lt 0 (count c g.c₀))
    where
      n : ℕ
      n = width T.arities (get_or st.symbols c 0)

      small : n ≤ 4
      small = width_small T.arities h.arities (get_or st.symbols c 0)

      L : List ℕ
      L = drop (4 * c) st.arguments

      many : length (map side (take n L)) ≡ n
      many =
          length-map (take n L) side
          ∙ length-take-le
          n
          L
          (omega (arith, small, in_range st.symbols c o, s.sizes.symbols, s.sizes.arguments, length-drop (4 * c) st.arguments))

      at : get_or (map side (take n L)) k (name 0) ≡ side (get_or st.arguments (4 * c + k) 0)
      at = get_or-map side (take n L) k 0 ∙ ap side (get_or-take n L k 0 w ∙ get_or-drop (4 * c) st.arguments k 0)

      by : (xs : List ℕ) (cs : List ℕ) → Inner (mem_of T st) c xs cs
          → ((x : ℕ) → count x xs ≤ count x (names g.terms) + count x (eqs_names g.eqs))
          → ((d : ℕ) → count d cs ≤ count d g.c₀ + count d g.c₁)
          → LiveSide st (side (get_or st.arguments (4 * c + k) 0))
      by xs cs i a b = on (side (get_or st.arguments (4 * c + k) 0)) (subst (λ v. Met v i.us i.ds) at (met i.reads k (omega (arith, many))))
        where
          on : (v : Side) → Met v i.us i.ds → LiveSide st v
          on (name x) q = live-name x (omega (arith, a x, i.names_too x))
          on (cell d) q = live-cell d (omega (arith, b d, i.cells d))

      go : Dec (0 < count c g.c₀) → LiveSide st (side (get_or st.arguments (4 * c + k) 0))
      go (yes q) = by (names g.terms) g.c₀ (inner g.face_reads c q) (λ x. omega arith) (λ d. omega arith)
      go (no q) = by (eqs_names g.eqs) g.c₁ (inner_all g.pool_reads c (omega (arith, g.cells c))) (λ x. omega arith) (λ d. omega arith)
