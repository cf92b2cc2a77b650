-- Lists of equations of sides, read after their order and sides have changed.
use Rattle.std.specs.Prelude.{◌≡◌, refl, List, [], ◌∷◌, ◌++◌, ℕ, ◌+◌}
use Rattle.std.proofs.Common.{◌∙◌, arith}
use Rattle.calculus.proofs.Beneath.Diamond.{Equivalence}
use Rattle.calculus.proofs.Beneath.Count.{sum-append, first_term, rest_terms}
use Rattle.calculus.proofs.Beneath.Perm.{perm_sym}
use Rattle.calculus.proofs.Beneath.Sub.{whole, on}
use Rattle.calculus.specs.Terms.{δ, count, Perm, none, keep, swap, step, nil, cons, Term, Terms, Eqn, ◌≐◌, Sides}
use Rattle.calculus.specs.Terms.{◌∼◌}
use Rattle.parts.specs.Sides.{Side, Pair, ◌:=◌}
use Rattle.model.specs.Table.{Cell}
use Rattle.model.specs.Reading.{Reads, by_name, by_cell, ReadsAll, no_pairs, pairs}
use Rattle.model.proofs.Beneath.Picks.{append_all}

pub data PairSides : Pair → Pair → Type 0 where
  same : {p : Pair} → PairSides p p
  turn : {a b : Side} → PairSides (a := b) (b := a)

pub PairSides_equivalence : Equivalence PairSides
PairSides_equivalence = record { same = λ e. same; back = back; join = join }
  where
    back : {e f : Pair} → PairSides e f → PairSides f e
    back same = same
    back turn = turn

    join : {e f g : Pair} → PairSides e f → PairSides f g → PairSides e g
    join same q = q
    join turn same = turn
    join turn turn = same

-- Two sides, read, can be read in the other order.
pub record Swapped (mem : ℕ → Cell) (a b : Side) (t u : Term) (cs : List ℕ) : Type 0 where
  pub its : List ℕ
  pub reads : Reads mem (b ∷ a ∷ []) (cons u (cons t nil)) its
  pub cells : (c : ℕ) → count c its ≡ count c cs

swap-sides : {mem : ℕ → Cell} {a b : Side} {ts : Terms} {cs : List ℕ} (d : Term) → Reads mem (a ∷ b ∷ []) ts cs
    → Swapped mem a b (first_term ts d) (first_term (rest_terms ts) d) cs
swap-sides d (by_name (by_name Reads.none)) = record { its = []; reads = by_name (by_name Reads.none); cells = λ c. refl }
swap-sides d (by_name (by_cell {c = k} {ds = ds} e q Reads.none)) =
    record { its = k ∷ (ds ++ []); reads = by_cell e q (by_name Reads.none); cells = λ c. refl }
swap-sides d (by_cell {c = k} {ds = ds} e q (by_name Reads.none)) =
    record { its = k ∷ (ds ++ []); reads = by_name (by_cell e q Reads.none); cells = λ c. refl }
swap-sides d (by_cell {c = k} {ds = ds} e q (by_cell {c = k'} {ds = ds'} e' q' Reads.none)) =
    record {
      its = k' ∷ (ds' ++ (k ∷ (ds ++ [])));
      reads = by_cell e' q' (by_cell e q Reads.none);
      cells = λ c. omega (
        arith,
        sum-append (δ c) ds' (k ∷ (ds ++ [])),
        sum-append (δ c) ds [],
        sum-append (δ c) ds (k' ∷ (ds' ++ [])),
        sum-append (δ c) ds' [],
      );
    }

-- A list in another order, and with sides exchanged, is read as the same equations up to order and sides.
pub record Reread (mem : ℕ → Cell) (l : List Pair) (m : List Eqn) (cs : List ℕ) : Type 0 where
  pub eqs : List Eqn
  pub its : List ℕ
  pub reads : ReadsAll mem l eqs its
  pub order : m ∼ eqs
  pub cells : (c : ℕ) → count c its ≡ count c cs

pub reread : {mem : ℕ → Cell} {l l' : List Pair} {m : List Eqn} {cs : List ℕ} → Perm PairSides l l'
    → ReadsAll mem l m cs → Reread mem l' m cs
reread none no_pairs = record { eqs = []; its = []; reads = no_pairs; order = none; cells = λ c. refl }
reread (keep same p) (pairs {t = t} {u = u} {cs = cs} {ds = ds} r w) =
    let k = reread p w in
    record {
      eqs = (t ≐ u) ∷ k.eqs;
      its = cs ++ k.its;
      reads = pairs r k.reads;
      order = on _ k.order;
      cells = λ c. omega (arith, sum-append (δ c) cs ds, sum-append (δ c) cs k.its, k.cells c);
    }
reread (keep turn p) (pairs {t = t} {u = u} {cs = cs} {ds = ds} r w) =
    let k = reread p w in
    let s = swap-sides t r in
    record {
      eqs = (u ≐ t) ∷ k.eqs;
      its = s.its ++ k.its;
      reads = pairs s.reads k.reads;
      order = keep Sides.turn k.order;
      cells = λ c. omega (arith, sum-append (δ c) cs ds, sum-append (δ c) s.its k.its, k.cells c, s.cells c);
    }
reread swap (pairs {t = t} {u = u} {cs = cs} r (pairs {t = t'} {u = u'} {cs = cs'} {ds = ds} {m = m} r' w)) =
    record {
      eqs = (t' ≐ u') ∷ (t ≐ u) ∷ m;
      its = cs' ++ (cs ++ ds);
      reads = pairs r' (pairs r w);
      order = swap;
      cells = λ c. omega
          (arith, sum-append (δ c) cs' (cs ++ ds), sum-append (δ c) cs ds, sum-append (δ c) cs (cs' ++ ds), sum-append (δ c) cs' ds);
    }
reread (step p q) w =
    let k = reread p w in
    let j = reread q k.reads in
    record { eqs = j.eqs; its = j.its; reads = j.reads; order = step k.order j.order; cells = λ c. j.cells c ∙ k.cells c }

-- A part of a list, read, and the rest.
pub record Part (mem : ℕ → Cell) (w rest : List Pair) (m : List Eqn) (cs : List ℕ) : Type 0 where
  pub eqs : List Eqn
  pub others : List Eqn
  pub its : List ℕ
  pub theirs : List ℕ
  pub it : ReadsAll mem w eqs its
  pub they : ReadsAll mem rest others theirs
  pub order : m ∼ eqs ++ others
  pub cells : (c : ℕ) → count c cs ≡ count c its + count c theirs

split : {mem : ℕ → Cell} (w : List Pair) {rest : List Pair} {m : List Eqn} {cs : List ℕ}
    → ReadsAll mem (w ++ rest) m cs → Part mem w rest m cs
split [] {m = m} {cs = cs} r =
    record { eqs = []; others = m; its = []; theirs = cs; it = no_pairs; they = r; order = whole m; cells = λ c. omega arith }
split ((a := b) ∷ w) (pairs {t = t} {u = u} {cs = cs} {ds = ds} r v) =
    let k = split w v in
    record {
      eqs = (t ≐ u) ∷ k.eqs;
      others = k.others;
      its = cs ++ k.its;
      theirs = k.theirs;
      it = pairs r k.it;
      they = k.they;
      order = on _ k.order;
      cells = λ c. omega (arith, sum-append (δ c) cs ds, sum-append (δ c) cs k.its, k.cells c);
    }

pub part : {mem : ℕ → Cell} (w : List Pair) {rest l : List Pair} {m : List Eqn} {cs : List ℕ}
    → Perm PairSides l (w ++ rest) → ReadsAll mem l m cs → Part mem w rest m cs
part w p r =
    let k = reread p r in
    let s = split w k.reads in
    record {
      eqs = s.eqs;
      others = s.others;
      its = s.its;
      theirs = s.theirs;
      it = s.it;
      they = s.they;
      order = step k.order s.order;
      cells = λ c. omega (arith, k.cells c, s.cells c);
    }

-- The converse: a list made of a part and the rest.
pub rebuild : {mem : ℕ → Cell} {w rest l : List Pair} {m m' : List Eqn} {cs cs' : List ℕ}
    → Perm PairSides l (w ++ rest) → ReadsAll mem w m cs → ReadsAll mem rest m' cs'
    → Reread mem l (m ++ m') (cs ++ cs')
rebuild p r s = reread (perm_sym PairSides_equivalence p) (append_all r s)
