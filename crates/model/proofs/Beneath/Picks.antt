-- Equations and sides picked out of what is read.
use Rattle.std.specs.Prelude.{◌≡◌, refl, List, [], ◌∷◌, ◌++◌, map, ℕ, ◌+◌, ◌≤◌, ◌<◌}
use Rattle.std.proofs.Common.{sym, ap, subst, append_assoc, arith}
use Rattle.std.proofs.Math.Decide.{ℕ_discrete}
use Rattle.calculus.proofs.Beneath.Count.{δ_same, δ_other, sum-append, sum_ext}
use Rattle.calculus.proofs.Beneath.Perm.{Ins, here, there}
use Rattle.calculus.specs.Terms.{δ, sum, count, var, node, nil, cons, Term, Terms, Eqn, ◌≐◌}
use Rattle.parts.specs.Sides.{Side, Pair, ◌:=◌}
use Rattle.model.specs.Table.{Cell}
use Rattle.model.specs.Reading.{Reads, by_name, by_cell, no_pairs, ReadsAll, pairs}
use Rattle.model.proofs.Beneath.Cells.{frame}

pub frame_all : {mem mem' : ℕ → Cell} {l : List Pair} {m : List Eqn} {cs : List ℕ}
    → ((c : ℕ) → 0 < count c cs → mem' c ≡ mem c) → ReadsAll mem l m cs → ReadsAll mem' l m cs
frame_all h no_pairs = no_pairs
frame_all h (pairs {cs = cs} {ds = ds} r w) =
    pairs (frame (λ d k. h d (omega (arith, sum-append (δ d) cs ds))) r) (frame_all (λ d k. h d (omega (arith, sum-append (δ d) cs ds))) w)

pub append_all : {mem : ℕ → Cell} {l l' : List Pair} {m m' : List Eqn} {cs cs' : List ℕ} → ReadsAll mem l m cs
    → ReadsAll mem l' m' cs'
    → ReadsAll mem (l ++ l') (m ++ m') (cs ++ cs')
append_all no_pairs w = w
append_all {mem} {l' = l'} {m' = m'} {cs' = cs'} (pairs {a = a} {b = b} {t = t} {u = u} {cs = cs} {ds = ds} {l = l} {m = m} r v) w =
    subst
    (λ k. ReadsAll mem ((a := b) ∷ (l ++ l')) ((t ≐ u) ∷ (m ++ m')) k)
    (sym (append_assoc cs ds cs'))
    (pairs r (append_all v w))

-- A picked equation, read; and the others.
pub record Picked (mem : ℕ → Cell) (p : Pair) (rest : List Pair) (m : List Eqn) (cs : List ℕ) : Type 0 where
  pub eqn : Eqn
  pub others : List Eqn
  pub its : List ℕ
  pub theirs : List ℕ
  pub out : Ins eqn others m
  pub it : ReadsAll mem (p ∷ []) (eqn ∷ []) its
  pub they : ReadsAll mem rest others theirs
  pub cells : (c : ℕ) → count c cs ≡ count c its + count c theirs

pub pick : {mem : ℕ → Cell} {p : Pair} {rest l : List Pair} {m : List Eqn} {cs : List ℕ} → Ins p rest l
    → ReadsAll mem l m cs → Picked mem p rest m cs
pick here (pairs {t = t} {u = u} {cs = cs} {ds = ds} {m = m} r w) =
    record {
      eqn = t ≐ u;
      others = m;
      its = cs ++ [];
      theirs = ds;
      out = here;
      it = pairs r no_pairs;
      they = w;
      cells = λ c. omega (arith, sum-append (δ c) cs ds, sum-append (δ c) cs []);
    }
pick (there i) (pairs {t = t} {u = u} {cs = cs} {ds = ds} r w) =
    let q = pick i w in
    record {
      eqn = q.eqn;
      others = (t ≐ u) ∷ q.others;
      its = q.its;
      theirs = cs ++ q.theirs;
      out = there q.out;
      it = q.it;
      they = pairs r q.they;
      cells = λ c. omega (arith, sum-append (δ c) cs ds, sum-append (δ c) cs q.theirs, q.cells c);
    }

-- What the sides of some names are read as, name by name.
pub record Each (mem : ℕ → Cell) (env : ℕ → Side) (l : List ℕ) (cs : List ℕ) : Type 0 where
  pub σ : ℕ → Term
  pub held : ℕ → List ℕ
  pub reads : (z : ℕ) → 0 < count z l → Reads mem (env z ∷ []) (cons (σ z) nil) (held z)
  pub cells : (c : ℕ) → count c cs ≡ sum (λ z. count c (held z)) l

pub record Uncons (mem : ℕ → Cell) (s : Side) (ss : List Side) (cs : List ℕ) : Type 0 where
  pub t : Term
  pub ts : Terms
  pub its : List ℕ
  pub theirs : List ℕ
  pub it : Reads mem (s ∷ []) (cons t nil) its
  pub they : Reads mem ss ts theirs
  pub cells : (c : ℕ) → count c cs ≡ count c its + count c theirs

pub uncons : {mem : ℕ → Cell} {s : Side} {ss : List Side} {ts : Terms} {cs : List ℕ} → Reads mem (s ∷ ss) ts cs
    → Uncons mem s ss cs
uncons (by_name {x = x} {ts = ts} {cs = cs} r) =
    record { t = var x; ts = ts; its = []; theirs = cs; it = by_name Reads.none; they = r; cells = λ c. omega arith }
uncons (by_cell {c = c} {k = k} {us = us} {ts = ts} {ds = ds} {cs = cs} e q r) =
    record {
      t = node k.symbol us;
      ts = ts;
      its = c ∷ (ds ++ []);
      theirs = cs;
      it = by_cell e q Reads.none;
      they = r;
      cells = λ d. omega (arith, sum-append (δ d) ds cs, sum-append (δ d) ds []);
    }

-- Name by name, if the names are all different.
pub each : {mem : ℕ → Cell} (env : ℕ → Side) (l : List ℕ) {ts : Terms} {cs : List ℕ} → ((z : ℕ) → count z l ≤ 1)
    → Reads mem (map env l) ts cs → Each mem env l cs
each env [] d Reads.none = record { σ = var; held = λ z. []; reads = λ z k. absurd (omega arith); cells = λ c. refl }
each {mem} env (x ∷ l) {cs = cs} d r = go (uncons r) (λ w. each env l (λ z. omega (arith, d z)) w)
  where
    go : (u : Uncons mem (env x) (map env l) cs)
        → (Reads mem (map env l) u.ts u.theirs → Each mem env l u.theirs) → Each mem env (x ∷ l) cs
    go u f = record { σ = σ; held = held; reads = reads; cells = cells }
      where
        e : Each mem env l u.theirs
        e = f u.they

        σ : ℕ → Term
        σ z = elim (ℕ_discrete z x) [ yes p ↦ u.t | no q ↦ e.σ z ]

        held : ℕ → List ℕ
        held z = elim (ℕ_discrete z x) [ yes p ↦ u.its | no q ↦ e.held z ]

        reads : (z : ℕ) → 0 < count z (x ∷ l) → Reads mem (env z ∷ []) (cons (σ z) nil) (held z)
        reads z k = pick' (ℕ_discrete z x)
          where
            pick' : (d : Dec (z ≡ x))
                → Reads
                mem
                (env z ∷ [])
                (cons (elim d [ yes p ↦ u.t | no q ↦ e.σ z ]) nil)
                (elim d [ yes p ↦ u.its | no q ↦ e.held z ])
            pick' (yes p) = rw p u.it
            pick' (no q) = e.reads z (omega (arith, δ_other q))

        at_x : (d : Dec (x ≡ x)) → elim d as (λ w. List ℕ) [ yes p ↦ u.its | no q ↦ e.held x ] ≡ u.its
        at_x (yes p) = refl
        at_x (no q) = absurd (q refl)

        off_x : (z : ℕ) → ¬ (z ≡ x) → (d : Dec (z ≡ x))
            → elim d as (λ w. List ℕ) [ yes p ↦ u.its | no q ↦ e.held z ] ≡ e.held z
        off_x z n (yes p) = absurd (n p)
        off_x z n (no q) = refl

        cells : (c : ℕ) → count c cs ≡ sum (λ z. count c (held z)) (x ∷ l)
        cells c =
            omega (
              arith,
              u.cells c,
              e.cells c,
              ap (count c) (at_x (ℕ_discrete x x)),
              sum_ext
                  (λ z. count c (held z))
                  (λ z. count c (e.held z))
                  l
                  (λ z k. ap (count c) (off_x z (λ p. omega (arith, d z, δ_same z, ap (δ z) p)) (ℕ_discrete z x))),
            )
