-- The test of a state and its soundness, clause by clause, both ways.
use Rattle.std.specs.Prelude.{◌≡◌, not, List, [], ◌∷◌, ◌++◌, ℕ, suc, ◌+◌, ◌*◌, ◌≤◌, ◌<◌, take, drop}
use Rattle.std.proofs.Math.Path.{refl, sym, ap, subst}
use Rattle.std.proofs.Common.{◌∙◌, length-take}
use Rattle.std.proofs.Math.Bool.{true}
use Rattle.std.proofs.lemmas.Bool.{false≢true}
use Rattle.std.proofs.Math.Decide.{dec_lt}
use native.Mathlib.Omega.{arith}
use Rattle.std.proofs.Math.Dec.{leb, eqb}
use Rattle.std.proofs.Math.ListN.{length, get_or, get_or-eq_default}
use Rattle.std.proofs.lemmas.List.{length-map}
use Rattle.calculus.proofs.Beneath.Count.{sum-append}
use Rattle.calculus.specs.Terms.{Terms, names, eqs_names, δ, count}
use Rattle.parts.specs.Limits.{arity_max, face_max, cells_max, names_max, waiting_max, stuck_max}
use Rattle.parts.specs.Sides.{cell, name, side, ◌:=◌, Side, Pair}
use Rattle.parts.specs.Codes.{side-code, code-side}
use Rattle.model.specs.State.{St, listed, bound, bond, zeros, to}
use Rattle.model.specs.Table.{Found, straight, Table, Cell, turned}
use Rattle.model.specs.Reading.{Reads, Whole}
use Rattle.model.specs.Sound.{Mutual, AllHeld, Sizes, Zeros, Sound, width, live, pool, sides}
use Rattle.model.specs.SoundTable.{SoundTable}
use Rattle.model.specs.Sound.{mem_of}
use Rattle.model.specs.Test.{blank, every, sides_of, Search, lost, saw, roots, searched, all_seen, reached}
use Rattle.model.specs.Test.{occurrences, twice, zeroed, declared, answered, both_ways, is_none, unruled, sized}
use Rattle.model.specs.Test.{tested}
use Rattle.model.proofs.Beneath.Cells.{◌+++◌, reads-append, one_outcome}
use Rattle.model.proofs.Beneath.Cellwork.{width_small}
use Rattle.model.proofs.Beneath.Counted.{counted}
use Rattle.model.proofs.Beneath.Facts.{zeros-length, zero_at}
use Rattle.model.proofs.Beneath.Pool.{in_range}
use Rattle.model.proofs.Beneath.Search.{Apart, equation_terms, Saw, met_all, apart, flat, flat-names, Unflat, unflat}
use Rattle.model.proofs.Beneath.Search.{sum-most, search_complete, search_sound, SawIf, names-row}
use Rattle.model.proofs.Beneath.Store.{pigeon}
use Rattle.model.proofs.Beneath.Truths.{eq_of, of_eq, le_of, of_le, parts, whole, implied, implies, not_true, of_not}
use Rattle.model.proofs.Beneath.Truths.{every_at, every_all, zeros-past, past-zeros}

module _ (T : Table) (s : St) where
  -- "all sizes hold"
  pub sized-sizes : sized s ≡ true → Sizes s
  unfolding sized
  sized-sizes e =
      let p = parts _ _ e in
      let q = parts _ _ p.1 in
      let r = parts _ _ q.1 in
      let t = parts _ _ r.1 in
      let u = parts _ _ t.1 in
      let v = parts _ _ u.1 in
      let w = parts _ _ v.1 in
      let x = parts _ _ w.1 in
      let y = parts _ _ x.1 in
      record {
        symbols = eq_of p.0;
        arguments = eq_of q.0;
        names = eq_of r.0;
        waiting = eq_of t.0;
        stuck = eq_of u.0;
        face = eq_of v.0;
        waits = le_of w.0;
        stucks = le_of x.0;
        faces = le_of y.0;
        loops = le_of y.1;
      }

  pub sizes-sized : Sizes s → sized s ≡ true
  unfolding sized
  sizes-sized h =
      whole
      (of_eq _ _ h.symbols)
      (whole
      (of_eq _ _ h.arguments)
      (whole
      (of_eq _ _ h.names)
      (whole
      (of_eq _ _ h.waiting)
      (whole
      (of_eq _ _ h.stuck)
      (whole (of_eq _ _ h.face) (whole (of_le _ _ h.waits) (whole (of_le _ _ h.stucks) (whole (of_le _ _ h.faces) (of_le _ _ h.loops)))))))))

  -- "unused places of every array and list are zero"
  pub zeroed-zeros : Sizes s → zeroed T s ≡ true → Zeros T s
  unfolding zeroed
  zeroed-zeros z e =
      let p = parts _ _ e in
      let q = parts _ _ p.1 in
      let r = parts _ _ q.1 in
      record {
        arguments = λ c k o h. go c k o h p.0 (dec_lt c cells_max);
        waiting = zeros-past (2 * waiting_max) s.waiting.words (2 * s.waiting.used) z.waiting q.0;
        stuck = zeros-past (2 * stuck_max) s.stuck.words (2 * s.stuck.used) z.stuck r.0;
        face = zeros-past face_max s.face.words s.face.used z.face r.1;
      }
    where
      go : (c k : ℕ) → k < arity_max → width T.arities (get_or s.symbols c 0) ≤ k
          → every cells_max (λ c. every arity_max (blank T s c)) ≡ true → Dec (c < cells_max)
          → get_or s.arguments (arity_max * c + k) 0 ≡ 0
      go c k o h t (yes i) =
          eq_of (implied _ _ (every_at arity_max (blank T s c) (every_at cells_max (λ c. every arity_max (blank T s c)) t c i) k o) (of_le _ _ h))
      go c k o h t (no i) = get_or-eq_default s.arguments 0 {n = arity_max * c + k} (omega (arith, z.arguments))

  pub zeros-zeroed : Zeros T s → zeroed T s ≡ true
  unfolding zeroed
  zeros-zeroed h =
      whole
      (every_all
      cells_max
      (λ c. every arity_max (blank T s c))
      (λ c i. every_all arity_max (blank T s c) (λ k o. implies _ _ (λ w. of_eq _ _ (h.arguments c k o (le_of w))))))
      (whole
      (past-zeros (2 * waiting_max) s.waiting.words (2 * s.waiting.used) h.waiting)
      (whole
      (past-zeros (2 * stuck_max) s.stuck.words (2 * s.stuck.used) h.stuck)
      (past-zeros face_max s.face.words s.face.used h.face)))

  -- "each cell's symbol is declared with that many arguments"
  pub declared_all : Sizes s → declared T s ≡ true → (c : ℕ) → get_or s.symbols c 0 ≤ length T.arities
  unfolding declared
  declared_all z e c = go (dec_lt c cells_max)
    where
      go : Dec (c < cells_max) → get_or s.symbols c 0 ≤ length T.arities
      go (yes i) = le_of (every_at cells_max (λ c. leb (get_or s.symbols c 0) (length T.arities)) e c i)
      go (no i) = omega (arith, get_or-eq_default s.symbols 0 {n = c} (omega (arith, z.symbols)))

  pub all_declared : ((c : ℕ) → get_or s.symbols c 0 ≤ length T.arities) → declared T s ≡ true
  unfolding declared
  all_declared h = every_all cells_max (λ c. leb (get_or s.symbols c 0) (length T.arities)) (λ c i. of_le _ _ (h c))

  -- "joins go both ways"
  pub both_mutual : Sizes s → both_ways s ≡ true → Mutual s.names
  unfolding both_ways
  both_mutual z e x y q = (eq_of k.0, λ o. not_true _ k.1 (of_eq x y o))
    where
      answer : answered s.names x (to (name y)) ≡ true
      answer =
          subst
          (λ b. answered s.names x b ≡ true)
          (ap bond q ∙ ap to (side-code (name y)))
          (every_at
          names_max
          (λ x. answered s.names x (bond (get_or s.names x 0)))
          e
          x
          (omega (arith, in_range s.names x (omega (arith, q)), z.names)))

      k : (eqb (get_or s.names y 0) (bound (name x)) ≡ true) × (not (eqb x y) ≡ true)
      k = parts _ _ answer

  pub mutual_both : Mutual s.names → both_ways s ≡ true
  unfolding both_ways
  mutual_both m = every_all names_max (λ x. answered s.names x (bond (get_or s.names x 0))) (λ x i. go x (get_or s.names x 0) refl)
    where
      on : (x : ℕ) (t : Side) → get_or s.names x 0 ≡ bound t → answered s.names x (to t) ≡ true
      on x (cell c) q = refl
      on x (name y) q = whole (of_eq _ _ (m x y q).0) (of_not _ (λ o. (m x y q).1 (eq_of o)))

      go : (x v : ℕ) → get_or s.names x 0 ≡ v → answered s.names x (bond v) ≡ true
      go x ℕ.zero q = refl
      go x (ℕ.suc ℕ.zero) q = refl
      go x (ℕ.suc (ℕ.suc w)) q = on x (side w) (omega (arith, q, code-side w))

  -- "no stuck pair has a rule"
  is_found : (r : Found) → is_none r ≡ true → r ≡ Found.none
  is_found Found.none e = refl
  is_found (straight i d) e = absurd (false≢true e)
  is_found (turned i d) e = absurd (false≢true e)

  pub unruled-held : (mem : ℕ → Cell) (l : List Pair) → unruled T.rules mem l ≡ true → AllHeld T.rules mem l
  unruled-held mem [] e = tt
  unruled-held mem ((name x := t) ∷ l) e = absurd (false≢true e)
  unruled-held mem ((cell a := name y) ∷ l) e = absurd (false≢true e)
  unruled-held mem ((cell a := cell b) ∷ l) e = let p = parts _ _ e in (is_found _ p.0, unruled-held mem l p.1)

  pub held-unruled : (mem : ℕ → Cell) (l : List Pair) → AllHeld T.rules mem l → unruled T.rules mem l ≡ true
  held-unruled mem [] h = refl
  held-unruled mem ((name x := t) ∷ l) h = absurd h.0
  held-unruled mem ((cell a := name y) ∷ l) h = absurd h.0
  held-unruled mem ((cell a := cell b) ∷ l) h = whole (ap is_none h.0) (held-unruled mem l h.1)

  -- "every cell in use is reached exactly once"
  pub record Reached : Type 0 where
    pub reads : Whole (mem_of T s) (sides s.face) (pool s)
    pub once : (c : ℕ) → count c reads.c₀ + count c reads.c₁ ≡ live s.symbols c
    pub inside : (x : ℕ) → names_max ≤ x → count x (names reads.terms) + count x (eqs_names reads.eqs) ≡ 0

  abbrev start : List ℕ
  start = zeros (length s.symbols)

  pub reached-reads : Sizes s → reached T s ≡ true → Reached
  unfolding reached
  reached-reads z e = go (searched T s) (search_sound (mem_of T s) s.symbols names_max _ (roots s) start (zeros-length (length s.symbols))) e
    where
      go : (r : Search) → SawIf (mem_of T s) names_max (roots s) start r → all_seen r s.symbols ≡ true → Reached
      go lost k t = absurd (false≢true t)
      go (saw seen) k t = on (apart (sides s.face) k.reads)
        where
          on : Apart (mem_of T s) (sides s.face) (sides_of (pool s)) k.ts k.cs → Reached
          on a = last (unflat (pool s) a.second)
            where
              seen_all : (c : ℕ) → get_or seen c 0 ≡ live s.symbols c
              seen_all c = by (dec_lt c cells_max)
                where
                  by : Dec (c < cells_max) → get_or seen c 0 ≡ live s.symbols c
                  by (yes i) = eq_of (every_at cells_max (λ c. eqb (get_or seen c 0) (live s.symbols c)) t c i)
                  by (no i) =
                      omega (
                        arith,
                        get_or-eq_default seen 0 {n = c} (omega (arith, k.size, zeros-length (length s.symbols), z.symbols)),
                        get_or-eq_default s.symbols 0 {n = c} (omega (arith, z.symbols)),
                      )

              last : Unflat (mem_of T s) (pool s) a.vs a.es → Reached
              last u =
                  record {
                    reads = record { terms = a.us; eqs = u.m; c₀ = a.ds; c₁ = u.ds; face_reads = a.first; pool_reads = u.reads };
                    once = λ c. omega (arith, u.cells c, a.cells c, k.cells c, seen_all c, zero_at (length s.symbols) c);
                    inside = λ x o. none_past x o (dec_lt 0 (count x (names k.ts)));
                  }
                where
                  none_past : (x : ℕ) → names_max ≤ x → Dec (0 < count x (names k.ts))
                      → count x (names a.us) + count x (eqs_names u.m) ≡ 0
                  none_past x o (yes i) = absurd (omega (arith, k.inside x i))
                  none_past x o (no i) = omega (arith, u.all x, a.all x)

  pub reads-reached : SoundTable T → Sizes s → Reached → reached T s ≡ true
  unfolding reached
  reads-reached t z h = go (search_complete (mem_of T s) s.symbols names_max _ start reads (zeros-length (length s.symbols)) unseen inside enough)
    where
      w : Whole (mem_of T s) (sides s.face) (pool s)
      w = h.reads

      ts : Terms
      ts = w.terms +++ equation_terms w.eqs

      cs : List ℕ
      cs = w.c₀ ++ w.c₁

      reads : Reads (mem_of T s) (roots s) ts cs
      reads = reads-append w.face_reads (flat w.pool_reads)

      total : (x : ℕ) → count x (names ts) ≡ count x (names w.terms) + count x (eqs_names w.eqs)
      total x =
          omega (
            arith,
            ap (count x) (names-row (mem_of T s) s.symbols names_max w.terms (equation_terms w.eqs)),
            sum-append (δ x) (names w.terms) (names (equation_terms w.eqs)),
            flat-names x w.eqs,
          )

      once : (c : ℕ) → count c cs ≡ live s.symbols c
      once c = omega (arith, sum-append (δ c) w.c₀ w.c₁, h.once c)

      unseen : (c : ℕ) → get_or start c 0 + count c cs ≤ live s.symbols c
      unseen c = omega (arith, zero_at (length s.symbols) c, once c)

      inside : (x : ℕ) → 0 < count x (names ts) → x < names_max
      inside x o = by (dec_lt x names_max)
        where
          by : Dec (x < names_max) → x < names_max
          by (yes i) = i
          by (no i) = absurd (omega (arith, total x, h.inside x (omega arith)))

      few : (c : ℕ) → length (mem_of T s c).args ≤ arity_max
      few c =
          omega (
            arith,
            length-map (take (width T.arities (get_or s.symbols c 0)) (drop (arity_max * c) s.arguments)) side,
            length-take (width T.arities (get_or s.symbols c 0)) (drop (arity_max * c) s.arguments),
            width_small T.arities t.arities (get_or s.symbols c 0),
          )

      enough : length cs + length (names ts) < suc (length (roots s) + arity_max * length s.symbols)
      enough =
          omega (
            arith,
            met_all reads,
            sum-most (λ c. length (mem_of T s c).args) arity_max cs few,
            pigeon (length s.symbols) cs (λ c. omega (arith, once c)) (λ c o. omega (arith, once c, get_or-eq_default s.symbols 0 {n = c} o)),
          )

      go : (seen' : List ℕ) × (searched T s ≡ saw seen') → all_seen (searched T s) s.symbols ≡ true
      go r =
          ap (λ a. all_seen a s.symbols) r.1
          ∙ on (subst (SawIf (mem_of T s) names_max (roots s) start) r.1 (search_sound (mem_of T s) s.symbols names_max _ (roots s) start (zeros-length (length s.symbols))))
        where
          on : Saw (mem_of T s) names_max (roots s) start r.0
              → every cells_max (λ c. eqb (get_or r.0 c 0) (live s.symbols c)) ≡ true
          on k =
              let o = one_outcome k.reads reads in
              every_all
              cells_max
              (λ c. eqb (get_or r.0 c 0) (live s.symbols c))
              (λ c i. of_eq (get_or r.0 c 0) (live s.symbols c) (omega (arith, k.cells c, zero_at (length s.symbols) c, ap (count c) o.the_cells, once c)))

  -- "each name in use occurs exactly twice"
  pub twice_all : Sizes s → twice T s ≡ true → (x : ℕ) → x < names_max → occurrences T s x ≡ 2 * live s.names x
  unfolding twice
  twice_all z e x i = eq_of (every_at names_max (λ x. eqb (occurrences T s x) (2 * live s.names x)) e x i)

  pub all_twice : ((x : ℕ) → occurrences T s x ≡ 2 * live s.names x) → twice T s ≡ true
  unfolding twice
  all_twice h = every_all names_max (λ x. eqb (occurrences T s x) (2 * live s.names x)) (λ x i. of_eq _ _ (h x))

  -- All clauses.
  pub test_passed : tested T s ≡ true → Sound T s
  unfolding tested
  test_passed e =
      let p = parts _ _ e in
      let q = parts _ _ p.1 in
      let r = parts _ _ q.1 in
      let t = parts _ _ r.1 in
      let u = parts _ _ t.1 in
      let v = parts _ _ u.1 in
      let z = sized-sizes v.1 in
      from z (reached-reads z p.0) (zeroed-zeros z q.0) (declared_all z r.0) (twice_all z t.0) (both_mutual z u.0) (unruled-held (mem_of T s) (listed s.stuck) v.0)
    where
      from : Sizes s → Reached → Zeros T s → ((c : ℕ) → get_or s.symbols c 0 ≤ length T.arities)
          → ((x : ℕ) → x < names_max → occurrences T s x ≡ 2 * live s.names x)
          → Mutual s.names → AllHeld T.rules (mem_of T s) (listed s.stuck) → Sound T s
      from z h o d w m k =
          record { reads = h.reads; once = h.once; zeros = o; declared = d; twice = λ x. by x (dec_lt x names_max); joins = m; stuck = k; sizes = z }
        where
          by : (x : ℕ) → Dec (x < names_max)
              → count x (names h.reads.terms) + count x (eqs_names h.reads.eqs) ≡ 2 * live s.names x
          by x (yes i) = counted T s h.reads h.once m z.symbols x ∙ w x i
          by x (no i) = omega (arith, h.inside x (omega arith), get_or-eq_default s.names 0 {n = x} (omega (arith, z.names)))

  pub sound-tested : SoundTable T → Sound T s → tested T s ≡ true
  unfolding tested
  sound-tested t h =
      whole
      (reads-reached t h.sizes (record { reads = h.reads; once = h.once; inside = inside }))
      (whole
      (zeros-zeroed h.zeros)
      (whole
      (all_declared h.declared)
      (whole
      (all_twice (λ x. sym (counted T s h.reads h.once h.joins h.sizes.symbols x) ∙ h.twice x))
      (whole (mutual_both h.joins) (whole (held-unruled (mem_of T s) (listed s.stuck) h.stuck) (sizes-sized h.sizes))))))
    where
      inside : (x : ℕ) → names_max ≤ x → count x (names h.reads.terms) + count x (eqs_names h.reads.eqs) ≡ 0
      inside x o = omega (arith, h.twice x, get_or-eq_default s.names 0 {n = x} (omega (arith, h.sizes.names)))
