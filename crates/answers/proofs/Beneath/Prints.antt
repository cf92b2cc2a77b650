-- The printer shows what the net shows.
use Rattle.std.specs.Prelude.{◌≡◌, refl, List, [], ◌∷◌, ◌++◌, ◌⊎◌, ℕ, zero, suc, ◌+◌, ◌≤◌, ◌<◌, length}
use Rattle.std.proofs.Common.{sym, ◌∙◌, ap, subst, append_assoc, inl, inr, arith}
use Rattle.std.proofs.Math.Decide.{ℕ_discrete}
use Rattle.calculus.specs.Terms.{Sort, one, var, node, nil, cons, Term, Terms, Eqn, ◌≐◌, Conf, ◌∼◌, touch}
use Rattle.calculus.specs.Terms.{names, eqs_names, δ, count}
use Rattle.calculus.proofs.Beneath.Count.{δ_same, δ_other, δ-cases, sum-append, if_yes, if_no}
use Rattle.calculus.proofs.Beneath.Perm.{perm_length}
use Rattle.calculus.specs.Calculus.{Valid}
use Rattle.parts.specs.Sides.{Side, name, cell}
use Rattle.model.specs.Table.{Cell}
use Rattle.model.specs.Reading.{Reads, by_name, by_cell}
use Rattle.model.specs.State.{Bond, free, bare, to}
use Rattle.answers.specs.Printer.{face_printed, Printer, Printed, name_printed, side_printed, before}
use Rattle.answers.specs.Printer.{sides_printed, over, cell_printed}
use Rattle.answers.specs.Answer.{net_agents, Other, Pick, alone, beside, picked, pick, Numbered, Found, unknown}
use Rattle.answers.specs.Answer.{known, find, Reader, Reading, named, read, agents, tied_agents}
use Rattle.answers.specs.Answer.{stuck, sides, start, face_read, answer}
use Rattle.answers.proofs.Beneath.Order.{PickAlike, PickIs, pick-∼, pick_is, rest-once, Touched, touching, apart}
use Rattle.answers.proofs.Beneath.Order.{touched}
use Rattle.answers.proofs.Beneath.Counts.{tied_agents-∼}
use Rattle.answers.proofs.Beneath.Drain.{Once}
use Rattle.answers.proofs.Beneath.Whole.{read-agree, stuck-agents}
use Rattle.answers.proofs.Beneath.Readings.{read-cons, read-node, read-nil, read_name}
use Rattle.answers.proofs.Beneath.Wired.{wired, inner, inner-wired, wired-∼, inner-∼, stuck-names}

-- What the printer knows of a reading.
abbrev pub printer : Reader → Printer
printer S = record { next = S.next; numbers = S.numbers }

abbrev pub printed : {s : Sort} → Reading s → Printed s
printed r = record { shown = r.shown; after = printer r.after }

-- A bond says what the net says of a name.
abbrev pub IsBare : Bond → Type 0
IsBare free = Unit {0}
IsBare bare = Unit {0}
IsBare (to s) = ⊥

pub record Holds (mem : ℕ → Cell) (b : Bond) (a : ℕ) (us : Terms) : Type 0 where
  pub c : ℕ
  pub ds : List ℕ
  pub bond : b ≡ to (cell c)
  pub symbol : (mem c).symbol ≡ a
  pub reads : Reads mem (mem c).args us ds

abbrev pub Match : (ℕ → Cell) → Bond → Term → Type 0
Match mem b (var y) = b ≡ to (name y)
Match mem b (node a us) = Holds mem b a us

abbrev pub Fits : (ℕ → Cell) → Bond → Pick → Type 0
Fits mem b alone = IsBare b
Fits mem b (beside t r) = Match mem b t

-- While the printer is at the names xs: each name occurs twice at most, in these and in the ties and joins left; a
-- name of these or within an agent, if it has no number, has the bond that the equations left give it.
pub record Faithful (mem : ℕ → Cell) (bonds : ℕ → Bond) (S : Reader) (xs : List ℕ) : Type 0 where
  pub once : Once S.unmet
  pub twice : (x : ℕ) → count x xs + wired x S.unmet ≤ 2
  pub fits : (x : ℕ) → 0 < count x xs + inner x S.unmet → find x S.numbers ≡ unknown
      → Fits mem (bonds x) (pick x S.unmet)

known_not : {k : ℕ} → known k ≡ unknown → ⊥
known_not e = subst IsKnown e tt
  where
    IsKnown : Found → Type 0
    IsKnown unknown = ⊥
    IsKnown (known k) = Unit {0}

not_found : (z : ℕ) (e : Numbered) (l : List Numbered) → find z (e ∷ l) ≡ unknown
    → (¬ (z ≡ e.name)) × (find z l ≡ unknown)
not_found z e l h = go (ℕ_discrete z e.name)
  where
    go : Dec (z ≡ e.name) → (¬ (z ≡ e.name)) × (find z l ≡ unknown)
    go (yes p) = absurd (known_not (sym (if_yes (known e.number) (find z l) p) ∙ h))
    go (no q) = (q, sym (if_no (known e.number) (find z l) q) ∙ h)

-- An equation that a name does not touch may be taken away.
fits-rest : (mem : ℕ → Cell) (b : Bond) (z : ℕ) (e : Eqn) {l r : List Eqn} → l ∼ e ∷ r → Once l → touch z e ≡ 0
    → Fits mem b (pick z l) → Fits mem b (pick z r)
fits-rest mem b z e {l} {r} p o h f = on (touched z e)
  where
    go : (q s : Pick) → PickAlike q (picked e r Other.none s) → Fits mem b q → Fits mem b s
    go alone alone a g = g
    go alone (beside u m) a g = absurd a
    go (beside t k) alone a g = absurd a
    go (beside t k) (beside u m) a g = subst (Match mem b) a.0 g

    on : Touched z e → Fits mem b (pick z r)
    on (touching t i c s) = absurd (omega (arith, h, i))
    on (apart i c) =
        go (pick z l) (pick z r) (subst (λ d. PickAlike (pick z l) (picked e r d (pick z r))) c (pick-∼ z p (o z))) f

module _ (mem : ℕ → Cell) (bonds : ℕ → Bond) (n : ℕ) where
  -- The outcome: the same is shown, and the rest may be read on.
  pub record Shows {s : Sort} (p : Printed s) (r : Reading s) (rest : List ℕ) : Type 0 where
    pub same : p ≡ printed r
    pub faithful : Faithful mem bonds r.after rest

  abbrev CellShows : ℕ → Type 0
  CellShows m =
      (c : ℕ) (us : Terms) (ds : List ℕ) → Reads mem (mem c).args us ds → (S : Reader) (rest : List ℕ)
      → length S.unmet ≤ n
      → suc (agents us) + tied_agents S.unmet ≤ m
      → Faithful mem bonds S (names us ++ rest)
      → Shows (cell_printed mem bonds m c (printer S)) (read n (node (mem c).symbol us) S) rest

  name_shows : (m : ℕ) → CellShows m → (x : ℕ) (S : Reader) (rest : List ℕ) → length S.unmet ≤ n
      → tied_agents S.unmet ≤ m
      → Faithful mem bonds S (x ∷ rest)
      → (f : Found) → find x S.numbers ≡ f → (p : Pick) → PickIs x S.unmet p → (b : Bond)
      → (f ≡ unknown → Fits mem b p)
      → Shows (name_printed (cell_printed mem bonds m) x (printer S) f b) (named (read n) x S f p) rest
  name_shows m h x S rest k a F (known j) g p i b v =
      record { same = refl; faithful = record { once = F.once; twice = λ z. omega (arith, F.twice z); fits = λ z c e. F.fits z (omega (arith, c)) e } }
  name_shows m h x S rest k a F unknown g alone i free v =
      record {
        same = refl;
        faithful =
            record {
              once = F.once;
              twice = λ z. omega (arith, F.twice z);
              fits =
                  λ z c e. F.fits z (omega (arith, c)) (not_found z (record { name = x; number = S.next }) S.numbers e).1;
            };
      }
  name_shows m h x S rest k a F unknown g alone i bare v =
      record {
        same = refl;
        faithful =
            record {
              once = F.once;
              twice = λ z. omega (arith, F.twice z);
              fits =
                  λ z c e. F.fits z (omega (arith, c)) (not_found z (record { name = x; number = S.next }) S.numbers e).1;
            };
      }
  name_shows m h x S rest k a F unknown g alone i (to s) v = absurd (v refl)
  name_shows m h x S rest k a F unknown g (beside (var y) r) i b v =
      record {
        same = ap (name_printed (cell_printed mem bonds m) x (printer S) unknown) (v refl);
        faithful =
            record {
              once = rest-once i F.once;
              twice = λ z. omega (arith, F.twice z, wired-∼ z i);
              fits =
                  λ z c e.
                  let u = not_found z (record { name = x; number = S.next }) (record { name = y; number = S.next } ∷ S.numbers) e in
                  let w = not_found z (record { name = y; number = S.next }) S.numbers u.1 in
                  fits-rest
                  mem
                  (bonds z)
                  z
                  (var x ≐ var y)
                  i
                  F.once
                  (omega (arith, δ_other u.0, δ_other w.0))
                  (F.fits z (omega (arith, c, inner-∼ z i)) w.1);
            };
      }
  name_shows m h x S rest k a F unknown g (beside (node s us) r) i b v =
      let w = v refl in
      let S' : Reader = record { next = S.next; numbers = S.numbers; unmet = r } in
      let q = h w.c us w.ds w.reads S' rest (omega (arith, k, perm_length i)) (omega (arith, a, tied_agents-∼ i)) (further i) in
      record {
        same =
            ap (name_printed (cell_printed mem bonds m) x (printer S) unknown) w.bond
            ∙ q.same
            ∙ ap (λ d. printed (read n (node d us) S')) w.symbol;
        faithful = subst (λ d. Faithful mem bonds (read n (node d us) S').after rest) w.symbol q.faithful;
      }
    where
      further : S.unmet ∼ (var x ≐ node s us) ∷ r
          → Faithful mem bonds (record { next = S.next; numbers = S.numbers; unmet = r }) (names us ++ rest)
      further i =
          record {
            once = rest-once i F.once;
            twice = λ z. omega (arith, F.twice z, wired-∼ z i, sum-append (δ z) (names us) rest);
            fits = λ z c e. fit z c e (δ-cases z x);
          }
        where
          fit : (z : ℕ) → 0 < count z (names us ++ rest) + inner z r → find z S.numbers ≡ unknown
              → ((z ≡ x) × (δ z x ≡ 1)) ⊎ ((¬ (z ≡ x)) × (δ z x ≡ 0)) → Fits mem (bonds z) (pick z r)
          fit z c e (inl d) =
              absurd (omega (
                arith,
                d.1,
                c,
                inner-wired z r,
                F.twice z,
                wired-∼ z i,
                sum-append (δ z) (names us) rest,
              ))
          fit z c e (inr d) =
              fits-rest
              mem
              (bonds z)
              z
              (var x ≐ node s us)
              i
              F.once
              (omega (arith, d.1))
              (F.fits z (omega (arith, c, inner-∼ z i, sum-append (δ z) (names us) rest)) e)

  after_first : (at : ℕ → Printer → Printed one) (p : Printed one) (ss : List Side) (t : Term) (ts : Terms) (S : Reader) (rest : List ℕ)
      → Shows p (read n t S) (names ts ++ rest)
      → Shows (sides_printed bonds at ss (printer (read n t S).after)) (read n ts (read n t S).after) rest
      → Shows (before p.shown (sides_printed bonds at ss p.after)) (read n (cons t ts) S) rest
  after_first at p ss t ts S rest f g =
      record {
        same =
            ap (λ z. before z.shown (sides_printed bonds at ss z.after)) f.same
            ∙ ap (before (read n t S).shown) g.same
            ∙ sym (ap printed (read-cons n t ts S));
        faithful = subst (λ r. Faithful mem bonds r.after rest) (sym (read-cons n t ts S)) g.faithful;
      }

  sides_shows : (m : ℕ) → CellShows m → {ss : List Side} {ts : Terms} {cs : List ℕ} → Reads mem ss ts cs
      → (S : Reader) (rest : List ℕ)
      → length S.unmet ≤ n
      → agents ts + tied_agents S.unmet ≤ m
      → Faithful mem bonds S (names ts ++ rest)
      → Shows (sides_printed bonds (cell_printed mem bonds m) ss (printer S)) (read n ts S) rest
  sides_shows m h Reads.none S rest k a F =
      subst (λ r. Shows (record { shown = nil; after = printer S }) r rest) (sym (read-nil n S)) (record { same = refl; faithful = F })
  sides_shows m h (by_name {x = x} {ss = ss} {ts = ts} q) S rest k a F =
      let g = read-agree n n (var x) S k k in
      let f : Shows (side_printed bonds (cell_printed mem bonds m) (name x) (printer S)) (read n (var x) S) (names ts ++ rest) =
      subst
      (λ r. Shows (side_printed bonds (cell_printed mem bonds m) (name x) (printer S)) r (names ts ++ rest))
      (sym (read_name n x S k))
      (name_shows
      m
      h
      x
      S
      (names ts ++ rest)
      k
      (omega (arith, a))
      F
      (find x S.numbers)
      refl
      (pick x S.unmet)
      (pick_is x S.unmet)
      (bonds x)
      (λ e. F.fits x (omega (arith, δ_same x)) e)) in
      after_first
      (cell_printed mem bonds m)
      (side_printed bonds (cell_printed mem bonds m) (name x) (printer S))
      ss
      (var x)
      ts
      S
      rest
      f
      (sides_shows m h q (read n (var x) S).after rest (omega (arith, k, g.fewer)) (omega (arith, a, g.whole)) f.faithful)
  sides_shows m h (by_cell {c = c} {k = j} {ss = ss} {us = us} {ts = ts} {ds = ds} e q r) S rest k a F =
      let g = read-agree n n (node j.symbol us) S k k in
      let f : Shows (cell_printed mem bonds m c (printer S)) (read n (node j.symbol us) S) (names ts ++ rest) =
      subst
      (λ d. Shows (cell_printed mem bonds m c (printer S)) (read n (node d.symbol us) S) (names ts ++ rest))
      e
      (h
      c
      us
      ds
      (subst (λ d. Reads mem d.args us ds) (sym e) q)
      S
      (names ts ++ rest)
      k
      (omega (arith, a))
      (subst (Faithful mem bonds S) (append_assoc (names us) (names ts) rest) F)) in
      after_first
      (cell_printed mem bonds m)
      (cell_printed mem bonds m c (printer S))
      ss
      (node j.symbol us)
      ts
      S
      rest
      f
      (sides_shows m h r (read n (node j.symbol us) S).after rest (omega (arith, k, g.fewer)) (omega (arith, a, g.whole)) f.faithful)

  cell_shows : (m : ℕ) → CellShows m
  cell_shows zero c us ds q S rest k a F = absurd (omega (arith, a))
  cell_shows (suc m) c us ds q S rest k a F =
      let w = sides_shows m (cell_shows m) q S rest k (omega (arith, a)) F in
      record {
        same = ap (over (mem c).symbol) w.same ∙ sym (ap printed (read-node n (mem c).symbol us S));
        faithful =
            subst (λ r. Faithful mem bonds r.after rest) (sym (read-node n (mem c).symbol us S)) w.faithful;
      }

  -- Some sides, printed with room for as many cells one within another as there are agents, show what the net shows of the terms that they are.
  pub prints : (m : ℕ) {ss : List Side} {ts : Terms} {cs : List ℕ} → Reads mem ss ts cs → (S : Reader) (rest : List ℕ)
      → length S.unmet ≤ n
      → agents ts + tied_agents S.unmet ≤ m
      → Faithful mem bonds S (names ts ++ rest)
      → Shows (sides_printed bonds (cell_printed mem bonds m) ss (printer S)) (read n ts S) rest
  prints m q S rest k a F = sides_shows m (cell_shows m) q S rest k a F

-- A valid net at its end, whose interface and stuck pairs are read from cells, and of which the bonds say what its
-- equations say.
pub record Held (mem : ℕ → Cell) (bonds : ℕ → Bond) (C : Conf) (fs ps : List Side) (cs ds : List ℕ) : Type 0 where
  pub valid : Valid C
  pub once : Once C.eqs
  pub face : Reads mem fs C.face cs
  pub pairs : Reads mem ps (sides (stuck C.eqs)) ds
  pub fits : (x : ℕ) → 0 < count x (names C.face) + count x (names (sides (stuck C.eqs))) + inner x C.eqs
      → Fits mem (bonds x) (pick x C.eqs)

-- The printer, with room for all agents one within another, shows the answer of the net: first the interface, then
-- from there the stuck pairs.
pub printer_is_right : {mem : ℕ → Cell} {bonds : ℕ → Bond} {C : Conf} {face pairs : List Side} {cs ds : List ℕ}
    → Held mem bonds C face pairs cs ds
    → (m : ℕ) → net_agents C ≤ m
    → ((face_printed mem bonds m face).shown ≡ (answer C).face)
    × ((sides_printed bonds (cell_printed mem bonds m) pairs (face_printed mem bonds m face).after).shown ≡ (answer C).pairs)
printer_is_right {mem} {bonds} {C} {face} {pairs} h m b =
    let n = length C.eqs in
    let ps = sides (stuck C.eqs) in
    let g = read-agree n n C.face (start C) (omega arith) (omega arith) in
    let f =
    prints
    mem
    bonds
    n
    m
    h.face
    (start C)
    (names ps ++ [])
    (omega arith)
    (omega (arith, b, stuck-agents C.eqs))
    (record {
      once = h.once;
      twice =
          λ x. omega (
            arith,
            h.valid x,
            stuck-names x C.eqs,
            sum-append (δ x) (names C.face) (names ps ++ []),
            sum-append (δ x) (names ps) [],
            sum-append (δ x) (names C.face) (eqs_names C.eqs),
          );
      fits =
          λ x c e. h.fits x (omega (
            arith,
            c,
            sum-append (δ x) (names C.face) (names ps ++ []),
            sum-append (δ x) (names ps) [],
          ));
    }) in
    let p =
    prints
    mem
    bonds
    n
    m
    h.pairs
    (face_read C).after
    []
    g.fewer
    (omega (arith, b, g.whole, stuck-agents C.eqs))
    f.faithful in (
      ap (λ r. r.shown) f.same,
      ap (λ r. (sides_printed bonds (cell_printed mem bonds m) pairs r.after).shown) f.same ∙ ap (λ r. r.shown) p.same,
    )
