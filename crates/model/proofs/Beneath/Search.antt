-- The walk over the cells sees all exactly on what reads, with each cell met once.
use Rattle.std.specs.Prelude.{◌≡◌, ◌⊎◌, set}
use Rattle.std.proofs.Math.Path.{refl, ap}
use Rattle.std.proofs.Common.{sym, ◌∙◌, subst, inl, inr, arith, length-append, length-set, get_or-set_same, get_or-set_other}
use mathlib.Core.List.{List, [], ◌∷◌, ◌++◌, append_assoc}
use Prim.Native.Nat.{ℕ, zero, suc, ◌+◌, ◌*◌, ◌≤◌, ◌<◌}
use Rattle.std.proofs.Math.Decide.{dec_lt}
use Rattle.std.proofs.Math.ListN.{length, get_or}
use Rattle.calculus.proofs.Beneath.Count.{δ_same, δ-cases, sum-append}
use Rattle.calculus.specs.Terms.{sum, δ, count, var, node, nil, cons, Term, Terms, Eqn, ◌≐◌, names, eqs_names}
use Rattle.parts.specs.Sides.{Side, name, cell, Pair, ◌:=◌}
use Rattle.model.specs.Table.{Cell}
use Rattle.model.specs.Reading.{Reads, by_name, by_cell, ReadsAll, no_pairs, pairs}
use Rattle.model.specs.Sound.{live}
use Rattle.model.specs.Test.{sides_of, Search, lost, saw, search_from}
use Rattle.model.proofs.Beneath.Cells.{◌+++◌, reads-append}
use Rattle.model.proofs.Beneath.Pool.{in_range}

-- Sides one after the other, read apart.
pub record Apart (mem : ℕ → Cell) (ss ss' : List Side) (ts : Terms) (cs : List ℕ) : Type 0 where
  pub us : Terms
  pub vs : Terms
  pub ds : List ℕ
  pub es : List ℕ
  pub first : Reads mem ss us ds
  pub second : Reads mem ss' vs es
  pub cells : (c : ℕ) → count c cs ≡ count c ds + count c es
  pub all : (x : ℕ) → count x (names ts) ≡ count x (names us) + count x (names vs)

pub apart : {mem : ℕ → Cell} (ss : List Side) {ss' : List Side} {ts : Terms} {cs : List ℕ}
    → Reads mem (ss ++ ss') ts cs → Apart mem ss ss' ts cs
apart [] {ts = ts} {cs = cs} r =
    record { us = nil; vs = ts; ds = []; es = cs; first = Reads.none; second = r; cells = λ c. omega arith; all = λ x. omega arith }
apart (name y ∷ ss) (by_name {x = x} r) =
    let k = apart ss r in
    record {
      us = cons (var x) k.us;
      vs = k.vs;
      ds = k.ds;
      es = k.es;
      first = by_name k.first;
      second = k.second;
      cells = k.cells;
      all = λ y. omega (arith, k.all y);
    }
apart (cell d ∷ ss) (by_cell {c = c} {k = w} {us = us} {ts = ts} {ds = ds} {cs = cs} e q r) =
    let k = apart ss r in
    record {
      us = cons (node w.symbol us) k.us;
      vs = k.vs;
      ds = c ∷ (ds ++ k.ds);
      es = k.es;
      first = by_cell e q k.first;
      second = k.second;
      cells = λ b. omega (arith, k.cells b, sum-append (δ b) ds cs, sum-append (δ b) ds k.ds);
      all = λ y. omega (arith, k.all y, sum-append (δ y) (names us) (names ts), sum-append (δ y) (names us) (names k.us));
    }

-- A walk that saw all: what it looked at reads, it saw the cells of that, each as often as it is there, and the names
-- are in range.
pub record Saw (mem : ℕ → Cell) (range : ℕ) (todo : List Side) (seen seen' : List ℕ) : Type 0 where
  pub ts : Terms
  pub cs : List ℕ
  pub reads : Reads mem todo ts cs
  pub cells : (c : ℕ) → get_or seen' c 0 ≡ get_or seen c 0 + count c cs
  pub inside : (x : ℕ) → 0 < count x (names ts) → x < range
  pub size : length seen' ≡ length seen

abbrev pub SawIf : (ℕ → Cell) → ℕ → List Side → List ℕ → Search → Type 0
SawIf mem range todo seen lost = Unit {0}
SawIf mem range todo seen (saw seen') = Saw mem range todo seen seen'

module _ (mem : ℕ → Cell) (ss : List ℕ) (range : ℕ) where
  one_name : (x : ℕ) (todo : List Side) (seen : List ℕ) → x < range → (r : Search) → SawIf mem range todo seen r
      → SawIf mem range (name x ∷ todo) seen r
  one_name x todo seen h lost k = tt
  one_name x todo seen h (saw seen') k =
      record { ts = cons (var x) k.ts; cs = k.cs; reads = by_name k.reads; cells = k.cells; inside = λ y o. go y o (δ-cases y x); size = k.size }
    where
      go : (y : ℕ) → 0 < δ y x + count y (names k.ts) → ((y ≡ x) × (δ y x ≡ 1)) ⊎ ((¬ (y ≡ x)) × (δ y x ≡ 0))
          → y < range
      go y o (inl e) = omega (arith, e.0)
      go y o (inr e) = k.inside y (omega (arith, e.1))

  one_cell : (c : ℕ) (todo : List Side) (seen : List ℕ) → c < length seen → get_or seen c 0 ≡ 0 → (r : Search)
      → SawIf mem range ((mem c).args ++ todo) (set seen c 1) r
      → SawIf mem range (cell c ∷ todo) seen r
  one_cell c todo seen h z lost k = tt
  one_cell c todo seen h z (saw seen') k = on (apart (mem c).args k.reads)
    where
      on : Apart mem (mem c).args todo k.ts k.cs → Saw mem range (cell c ∷ todo) seen seen'
      on a =
          record {
            ts = cons (node (mem c).symbol a.us) a.vs;
            cs = c ∷ (a.ds ++ a.es);
            reads = by_cell refl a.first a.second;
            cells = λ d. go d (δ-cases d c);
            inside = λ x o. k.inside x (omega (arith, o, a.all x, sum-append (δ x) (names a.us) (names a.vs)));
            size = k.size ∙ length-set seen c 1;
          }
        where
          go : (d : ℕ) → ((d ≡ c) × (δ d c ≡ 1)) ⊎ ((¬ (d ≡ c)) × (δ d c ≡ 0))
              → get_or seen' d 0 ≡ get_or seen d 0 + (δ d c + count d (a.ds ++ a.es))
          go d (inl e) =
              omega (
                arith,
                e.1,
                k.cells d,
                a.cells d,
                sum-append (δ d) a.ds a.es,
                ap (λ i. get_or seen i 0) e.0,
                z,
                ap (λ i. get_or (set seen c 1) i 0) e.0,
                get_or-set_same seen c 1 0 h,
              )
          go d (inr e) = omega (arith, e.1, k.cells d, a.cells d, sum-append (δ d) a.ds a.es, get_or-set_other seen c d 1 0 e.0)

  pub search_sound : (n : ℕ) (todo : List Side) (seen : List ℕ) → length seen ≡ length ss
      → SawIf mem range todo seen (search_from n mem ss range todo seen)
  unfolding search_from
  search_sound ℕ.zero todo seen l = tt
  search_sound (ℕ.suc n) [] seen l = record { ts = nil; cs = []; reads = Reads.none; cells = λ c. omega arith; inside = λ x o. absurd (omega arith); size = refl }
  search_sound (ℕ.suc n) (name x ∷ todo) seen l = go (dec_lt x range) (search_sound n todo seen l)
    where
      go : (d : Dec (x < range)) → SawIf mem range todo seen (search_from n mem ss range todo seen)
          → SawIf mem range (name x ∷ todo) seen (elim d [ yes h ↦ search_from n mem ss range todo seen | no h ↦ lost ])
      go (yes h) k = one_name x todo seen h (search_from n mem ss range todo seen) k
      go (no h) k = tt
  search_sound (ℕ.suc n) (cell c ∷ todo) seen l =
      go (get_or seen c 0) refl (get_or ss c 0) refl (search_sound n ((mem c).args ++ todo) (set seen c 1) (length-set seen c 1 ∙ l))
    where
      go : (v : ℕ) → get_or seen c 0 ≡ v → (w : ℕ) → get_or ss c 0 ≡ w
          → SawIf mem range ((mem c).args ++ todo) (set seen c 1) (search_from n mem ss range ((mem c).args ++ todo) (set seen c 1))
          → SawIf
          mem
          range
          (cell c ∷ todo)
          seen
          (elim v [
            | zero ↦ elim w [ zero ↦ lost | suc s ↦ search_from n mem ss range ((mem c).args ++ todo) (set seen c 1) ]
            | suc s ↦ lost
          ])
      go ℕ.zero e ℕ.zero f k = tt
      go ℕ.zero e (ℕ.suc s) f k =
          one_cell c todo seen (omega (arith, l, in_range ss c (omega (arith, f)))) e (search_from n mem ss range ((mem c).args ++ todo) (set seen c 1)) k
      go (ℕ.suc v) e w f k = tt

  pub names-row : (us vs : Terms) → names (us +++ vs) ≡ names us ++ names vs
  names-row nil vs = refl
  names-row (cons t us) vs = ap (λ l. names t ++ l) (names-row us vs) ∙ sym (append_assoc (names t) (names us) (names vs))

  -- The walk does not lose itself on what reads, if each cell is there at most once, unseen and in use, and there are
  -- enough steps.
  pub search_complete : (n : ℕ) {todo : List Side} {ts : Terms} {cs : List ℕ} (seen : List ℕ) → Reads mem todo ts cs
      → length seen ≡ length ss
      → ((c : ℕ) → get_or seen c 0 + count c cs ≤ live ss c) → ((x : ℕ) → 0 < count x (names ts) → x < range)
      → length cs + length (names ts) < n
      → (seen' : List ℕ) × (search_from n mem ss range todo seen ≡ saw seen')
  unfolding search_from
  search_complete ℕ.zero seen r l k o f = absurd (omega arith)
  search_complete (ℕ.suc n) seen Reads.none l k o f = (seen, refl)
  search_complete (ℕ.suc n) seen (by_name {x = x} {ss = todo} {ts = ts} r) l k o f =
      go (dec_lt x range) (search_complete n seen r l k (λ y h. o y (omega arith)) (omega arith))
    where
      go : (d : Dec (x < range)) → (seen' : List ℕ) × (search_from n mem ss range todo seen ≡ saw seen')
          → (seen' : List ℕ) × (elim d [ yes h ↦ search_from n mem ss range todo seen | no h ↦ lost ] ≡ saw seen')
      go (yes h) e = e
      go (no h) e = absurd (h (o x (omega (arith, δ_same x))))
  search_complete (ℕ.suc n) seen (by_cell {c = c} {k = w} {ss = todo} {us = us} {ts = ts} {ds = ds} {cs = cs} e q r) l k o f =
      go
      (get_or seen c 0)
      refl
      (get_or ss c 0)
      refl
      (search_complete
      n
      (set seen c 1)
      (reads-append (subst (λ h. Reads mem h.args us ds) (sym e) q) r)
      (length-set seen c 1 ∙ l)
      (λ d. by d (δ-cases d c))
      (λ x h. o x (omega (arith, h, ap (count x) (names-row us ts))))
      (omega (arith, f, ap length (names-row us ts))))
    where
      in_place : c < length seen
      in_place = omega (arith, l, in_range ss c (omega (arith, k c, δ_same c)))

      by : (d : ℕ) → ((d ≡ c) × (δ d c ≡ 1)) ⊎ ((¬ (d ≡ c)) × (δ d c ≡ 0))
          → get_or (set seen c 1) d 0 + count d (ds ++ cs) ≤ live ss d
      by d (inl p) =
          omega (arith, p.1, k d, ap (λ i. get_or (set seen c 1) i 0) p.0, get_or-set_same seen c 1 0 in_place, ap (λ i. get_or seen i 0) p.0)
      by d (inr p) = omega (arith, p.1, k d, get_or-set_other seen c d 1 0 p.0)

      go : (v : ℕ) → get_or seen c 0 ≡ v → (u : ℕ) → get_or ss c 0 ≡ u
          → (seen' : List ℕ) × (search_from n mem ss range ((mem c).args ++ todo) (set seen c 1) ≡ saw seen')
          → (seen' : List ℕ)
          × (elim v [ zero ↦ elim u [ zero ↦ lost | suc s ↦ search_from n mem ss range ((mem c).args ++ todo) (set seen c 1) ] | suc s ↦ lost ] ≡ saw seen')
      go ℕ.zero p ℕ.zero t i = absurd (omega (arith, k c, δ_same c, t))
      go ℕ.zero p (ℕ.suc u) t i = i
      go (ℕ.suc v) p u t i = absurd (omega (arith, k c, δ_same c, p))

-- How many sides are met.
pub met_all : {mem : ℕ → Cell} {todo : List Side} {ts : Terms} {cs : List ℕ} → Reads mem todo ts cs
    → length cs + length (names ts) ≡ length todo + sum (λ c. length (mem c).args) cs
met_all Reads.none = refl
met_all (by_name r) = omega (arith, met_all r)
met_all {mem} (by_cell {c = c} {k = k} {us = us} {ts = ts} {ds = ds} {cs = cs} e q r) =
    omega (
      arith,
      met_all q,
      met_all r,
      ap (λ w. length w.args) e,
      length-append ds cs,
      length-append (names us) (names ts),
      sum-append (λ c. length (mem c).args) ds cs,
    )

pub sum-most : (f : ℕ → ℕ) (m : ℕ) (l : List ℕ) → ((c : ℕ) → f c ≤ m) → sum f l ≤ m * length l
sum-most f m [] h = omega arith
sum-most f m (c ∷ l) h = omega (arith, h c, sum-most f m l h)

-- A pool as a list of sides.
abbrev pub equation_terms : List Eqn → Terms
equation_terms [] = nil
equation_terms ((t ≐ u) ∷ m) = cons t (cons u (equation_terms m))

pub flat : {mem : ℕ → Cell} {l : List Pair} {m : List Eqn} {cs : List ℕ} → ReadsAll mem l m cs
    → Reads mem (sides_of l) (equation_terms m) cs
flat no_pairs = Reads.none
flat (pairs r w) = reads-append r (flat w)

pub flat-names : (x : ℕ) (m : List Eqn) → count x (names (equation_terms m)) ≡ count x (eqs_names m)
flat-names x [] = refl
flat-names x ((t ≐ u) ∷ m) =
    omega (
      arith,
      flat-names x m,
      sum-append (δ x) (names t) (names u ++ names (equation_terms m)),
      sum-append (δ x) (names u) (names (equation_terms m)),
      sum-append (δ x) (names t ++ names u) (eqs_names m),
      sum-append (δ x) (names t) (names u),
    )

record TwoRead (mem : ℕ → Cell) (a b : Side) (us : Terms) (ds : List ℕ) : Type 0 where
  pub t : Term
  pub u : Term
  pub reads : Reads mem (a ∷ b ∷ []) (cons t (cons u nil)) ds
  pub all : (x : ℕ) → count x (names us) ≡ count x (names t) + count x (names u)

two_read : {mem : ℕ → Cell} {a b : Side} {us : Terms} {ds : List ℕ} → Reads mem (a ∷ b ∷ []) us ds
    → TwoRead mem a b us ds
two_read (by_name {x = x} (by_name {x = y} Reads.none)) =
    record { t = var x; u = var y; reads = by_name (by_name Reads.none); all = λ z. omega arith }
two_read (by_name {x = x} (by_cell {k = k} {us = us} e q Reads.none)) =
    record { t = var x; u = node k.symbol us; reads = by_name (by_cell e q Reads.none); all = λ z. omega (arith, sum-append (δ z) (names us) []) }
two_read (by_cell {k = k} {us = us} e q (by_name {x = y} Reads.none)) =
    record {
      t = node k.symbol us;
      u = var y;
      reads = by_cell e q (by_name Reads.none);
      all = λ z. omega (arith, sum-append (δ z) (names us) (y ∷ []));
    }
two_read (by_cell {k = k} {us = us} e q (by_cell {k = k'} {us = us'} e' q' Reads.none)) =
    record {
      t = node k.symbol us;
      u = node k'.symbol us';
      reads = by_cell e q (by_cell e' q' Reads.none);
      all = λ z. omega (arith, sum-append (δ z) (names us) (names us' ++ []), sum-append (δ z) (names us') []);
    }

pub record Unflat (mem : ℕ → Cell) (l : List Pair) (ts : Terms) (cs : List ℕ) : Type 0 where
  pub m : List Eqn
  pub ds : List ℕ
  pub reads : ReadsAll mem l m ds
  pub cells : (c : ℕ) → count c cs ≡ count c ds
  pub all : (x : ℕ) → count x (names ts) ≡ count x (eqs_names m)

nothing_read : {mem : ℕ → Cell} {ts : Terms} {cs : List ℕ} → Reads mem [] ts cs → Unflat mem [] ts cs
nothing_read Reads.none = record { m = []; ds = []; reads = no_pairs; cells = λ c. refl; all = λ x. refl }

pub unflat : {mem : ℕ → Cell} (l : List Pair) {ts : Terms} {cs : List ℕ} → Reads mem (sides_of l) ts cs
    → Unflat mem l ts cs
unflat [] r = nothing_read r
unflat {mem} ((a := b) ∷ l) {ts} {cs} r = go (apart (a ∷ b ∷ []) r) (λ ts' cs' k. unflat l {ts = ts'} {cs = cs'} k)
  where
    go : Apart mem (a ∷ b ∷ []) (sides_of l) ts cs
        → ((ts' : Terms) (cs' : List ℕ) → Reads mem (sides_of l) ts' cs' → Unflat mem l ts' cs')
        → Unflat mem ((a := b) ∷ l) ts cs
    go p f = on (two_read p.first) (f p.vs p.es p.second)
      where
        on : TwoRead mem a b p.us p.ds → Unflat mem l p.vs p.es → Unflat mem ((a := b) ∷ l) ts cs
        on q k =
            record {
              m = (q.t ≐ q.u) ∷ k.m;
              ds = p.ds ++ k.ds;
              reads = pairs q.reads k.reads;
              cells = λ c. omega (arith, p.cells c, k.cells c, sum-append (δ c) p.ds k.ds);
              all = λ x. omega (
                arith,
                p.all x,
                k.all x,
                q.all x,
                sum-append (δ x) (names q.t ++ names q.u) (eqs_names k.m),
                sum-append (δ x) (names q.t) (names q.u),
              );
            }
