-- To read some terms is to put each tied and joined name's other side in its place, one by one, and to number what is left.
use Rattle.std.specs.Prelude.{◌≡◌, refl, List, [], ◌∷◌, ◌++◌, ℕ, zero, suc, ◌+◌, ◌≤◌, ◌<◌, length}
use Rattle.std.proofs.Common.{sym, ◌∙◌, ap, ap₂, subst, append_assoc, arith}
use Rattle.std.proofs.Math.Decide.{ℕ_discrete, dec_lt}
use Rattle.calculus.specs.Terms.{Sort, one, many, Tree, var, node, nil, cons, Term, Terms, Eqn, ◌≐◌, names, δ, count, touches}
use Rattle.calculus.specs.Terms.{◌∼◌, step}
use Rattle.calculus.proofs.Beneath.Count.{δ_same, δ_other, sum-append}
use Rattle.calculus.proofs.Beneath.Ended.{touches-∼}
use Rattle.calculus.proofs.Beneath.Perm.{perm_length}
use Rattle.calculus.proofs.Beneath.Sub.{whole, back}
use Rattle.answers.specs.Answer.{Pick, alone, beside, pick, Found, unknown, known, find, Reader, Reading, named}
use Rattle.answers.specs.Answer.{read, stuck}
use Rattle.answers.proofs.Beneath.Order.{PickIs, pick_is}
use Rattle.answers.proofs.Beneath.Whole.{read-agree}
use Rattle.answers.proofs.Beneath.Readings.{read-cons, read-node, read-nil, read_name}
use Rattle.answers.proofs.Beneath.Counts.{stuck-∼}
use Rattle.answers.proofs.Beneath.Wired.{wired, wired-∼}
use Rattle.answers.proofs.Beneath.Context.{Place, within, head, tail, plug, plug-count, Allowed, all_allowed}
use Rattle.answers.proofs.Beneath.Along.{size, Along, plain_known, plain_new}
use Rattle.answers.proofs.Beneath.Meeting.{met-known, met-alone, met-joined, joined_free, joined_new, met_tied, tied_wired}

-- `Reach ts l us m`: from the terms ts and the equations l one comes to us and m.
module _
    (Reach : Terms → List Eqn → Terms → List Eqn → Type 0)
    (stay : (ts : Terms) (l : List Eqn) → Reach ts l ts l)
    (join : (ts us vs : Terms) (k l m : List Eqn) → Reach ts k us l → Reach us l vs m → Reach ts k vs m)
    (Fit : (s : Sort) → Place s → Type 0)
    (fit-within : (a : ℕ) (c : Place one) → Fit many (within a c))
    (fit-head : (ts : Terms) (c : Place many) → Fit many c → Fit one (head ts c))
    (fit-tail : (t : Term) (c : Place many) → Fit many c → Fit many (tail t c))
    (follow : (c : Place one) → Fit one c → (x : ℕ) (u : Term) (l r : List Eqn) → l ∼ (var x ≐ u) ∷ r
    → ((z : ℕ) → count z (names (plug c (var x))) + wired z l ≤ 2)
    → Reach (plug c (var x)) l (plug c u) r)
  where
    -- What it is that q was read of t, and p of the tree in which the other sides were put.
    pub record Made {s : Sort} (t : Tree s) (S : Reader) (rest : List ℕ) (q : Reading s) (tree : Tree s) (p : Reading s) : Type 0 where
      pub shown : q.shown ≡ p.shown
      pub along : Along rest q.after p.after
      pub fewer : (z : ℕ)
          → count z (names tree) + wired z q.after.unmet ≤ count z (names t) + wired z S.unmet
      pub shrinks : (z : ℕ) → touches z q.after.unmet ≤ touches z S.unmet
      pub settled : (z : ℕ) → 0 < count z (names tree) → touches z q.after.unmet ≡ 0
      pub kept : stuck q.after.unmet ∼ stuck S.unmet
      pub long : size tree ≡ size t
      pub tops : Allowed ⊥ t → Allowed ⊥ tree
      pub reach : (c : Place s) → Allowed (Fit s c) t
          → ((z : ℕ) → count z (names (plug c t)) + wired z S.unmet ≤ 2)
          → Reach (plug c t) S.unmet (plug c tree) q.after.unmet

    pub record Gathered (n : ℕ) {s : Sort} (t : Tree s) (S R : Reader) (rest : List ℕ) : Type 0 where
      pub tree : Tree s
      pub made : Made t S rest (read n t S) tree (read 0 tree R)

    -- Where a term's names may stand, its parts' may.
    map-allowed : (I J : Type 0) → (I → J) → {s : Sort} (t : Tree s) → Allowed I t → Allowed J t
    map-allowed I J f (var x) h = f h
    map-allowed I J f (node a ts) h = tt
    map-allowed I J f nil h = tt
    map-allowed I J f (cons t ts) h = (map-allowed I J f t h.0, map-allowed I J f ts h.1)

    abbrev Gathers : ℕ → ℕ → Type 0
    Gathers n b =
        (t : Term) (S R : Reader) (rest : List ℕ) → length S.unmet < b → length S.unmet ≤ n
        → Along (names t ++ rest) S R
        → Gathered n t S R rest

    gather_known : (x j : ℕ) (S R : Reader) (rest : List ℕ) → Along (x ∷ rest) S R → find x S.numbers ≡ known j
        → Made (var x) S rest (record { shown = var j; after = S }) (var x) (read 0 (var x) R)
    gather_known x j S R rest A e =
        subst
        (Made (var x) S rest (record { shown = var j; after = S }) (var x))
        (sym (plain_known x j R (sym (A.agree x (omega (arith, δ_same x))) ∙ e)))
        (record {
          shown = refl;
          along = met-known x S R rest A;
          fewer = λ z. omega arith;
          shrinks = λ z. omega arith;
          settled = λ z k. here z (ℕ_discrete z x) k;
          kept = whole (stuck S.unmet);
          long = refl;
          tops = λ h. h;
          reach = λ c o v. stay (plug c (var x)) S.unmet;
        })
      where
        here : (z : ℕ) → Dec (z ≡ x) → 0 < count z (x ∷ []) → touches z S.unmet ≡ 0
        here z (yes q) k = ap (λ y. touches y S.unmet) q ∙ A.met x j e
        here z (no q) k = absurd (omega (arith, k, δ_other q))

    gather_alone : (x : ℕ) (S R : Reader) (rest : List ℕ) → Along (x ∷ rest) S R → find x S.numbers ≡ unknown
        → touches x S.unmet ≡ 0
        → Made
        (var x)
        S
        rest
        (record {
          shown = var S.next;
          after =
              record {
                next = suc S.next;
                numbers = record { name = x; number = S.next } ∷ S.numbers;
                unmet = S.unmet;
              };
        })
        (var x)
        (read 0 (var x) R)
    gather_alone x S R rest A e i =
        subst
        (Made (var x) S rest _ (var x))
        (sym (plain_new x R (sym (A.agree x (omega (arith, δ_same x))) ∙ e) A.bare))
        (record {
          shown = ap var A.next;
          along = met-alone x S R rest A i;
          fewer = λ z. omega arith;
          shrinks = λ z. omega arith;
          settled = λ z k. here z (ℕ_discrete z x) k;
          kept = whole (stuck S.unmet);
          long = refl;
          tops = λ h. h;
          reach = λ c o v. stay (plug c (var x)) S.unmet;
        })
      where
        here : (z : ℕ) → Dec (z ≡ x) → 0 < count z (x ∷ []) → touches z S.unmet ≡ 0
        here z (yes q) k = ap (λ y. touches y S.unmet) q ∙ i
        here z (no q) k = absurd (omega (arith, k, δ_other q))

    gather_joined : (x y : ℕ) (r : List Eqn) (S R : Reader) (rest : List ℕ) → Along (x ∷ rest) S R
        → find x S.numbers ≡ unknown → S.unmet ∼ (var x ≐ var y) ∷ r
        → Made
        (var x)
        S
        rest
        (record {
          shown = var S.next;
          after =
              record {
                next = suc S.next;
                numbers = record { name = x; number = S.next } ∷ record { name = y; number = S.next } ∷ S.numbers;
                unmet = r;
              };
        })
        (var y)
        (read 0 (var y) R)
    gather_joined x y r S R rest A e i =
        subst
        (Made (var x) S rest _ (var y))
        (sym (plain_new y R (sym (A.agree y (omega (arith, wired-∼ y i, δ_same y))) ∙ joined_new x y r S R rest A i (find y S.numbers) refl) A.bare))
        (record {
          shown = ap var A.next;
          along = met-joined x y r S R rest A i;
          fewer = λ z. omega (arith, wired-∼ z i);
          shrinks = λ z. omega (arith, touches-∼ z i);
          settled = λ z k. here z (ℕ_discrete z y) k;
          kept = back (stuck-∼ i);
          long = refl;
          tops = λ h. h;
          reach = λ c o v. follow c o x (var y) S.unmet r i v;
        })
      where
        here : (z : ℕ) → Dec (z ≡ y) → 0 < count z (y ∷ []) → touches z r ≡ 0
        here z (yes q) k = ap (λ w. touches w r) q ∙ joined_free x y r S R rest A i
        here z (no q) k = absurd (omega (arith, k, δ_other q))

    gather_tied : (n x a : ℕ) (us : Terms) (r : List Eqn) (S R : Reader) (rest : List ℕ) → Along (x ∷ rest) S R
        → S.unmet ∼ (var x ≐ node a us) ∷ r
        → (Along (names us ++ rest) (record { next = S.next; numbers = S.numbers; unmet = r }) R
        → Gathered n (node a us) (record { next = S.next; numbers = S.numbers; unmet = r }) R rest)
        → (tree : Term) × Made (var x) S rest (read n (node a us) (record { next = S.next; numbers = S.numbers; unmet = r })) tree (read 0 tree R)
    gather_tied n x a us r S R rest A i h = (
      g.tree,
      record {
        shown = g.made.shown;
        along = g.made.along;
        fewer = λ z. omega (arith, g.made.fewer z, tied_wired x a us r S R rest A i z);
        shrinks = λ z. omega (arith, g.made.shrinks z, touches-∼ z i);
        settled = g.made.settled;
        kept = step g.made.kept (back (stuck-∼ i));
        long = g.made.long;
        tops = λ h. absurd h;
        reach =
            λ c o v.
            join
            (plug c (var x))
            (plug c (node a us))
            (plug c g.tree)
            S.unmet
            r
            (read n (node a us) (record { next = S.next; numbers = S.numbers; unmet = r })).after.unmet
            (follow c o x (node a us) S.unmet r i v)
            (g.made.reach c tt (λ z. omega (
              arith,
              v z,
              tied_wired x a us r S R rest A i z,
              plug-count z c (var x),
              plug-count z c (node a us),
            )));
      },
    )
      where
        g : Gathered n (node a us) (record { next = S.next; numbers = S.numbers; unmet = r }) R rest
        g = h (met_tied x a us r S R rest A i)

    gather_name : (n b : ℕ) → Gathers n b → (x : ℕ) (S R : Reader) (rest : List ℕ) → length S.unmet ≤ b
        → length S.unmet ≤ n
        → Along (x ∷ rest) S R → (f : Found) → find x S.numbers ≡ f → (p : Pick) → PickIs x S.unmet p
        → (tree : Term) × Made (var x) S rest (named (read n) x S f p) tree (read 0 tree R)
    gather_name n b h x S R rest l k A (known j) e p i = (var x, gather_known x j S R rest A e)
    gather_name n b h x S R rest l k A unknown e alone i = (var x, gather_alone x S R rest A e i)
    gather_name n b h x S R rest l k A unknown e (beside (var y) r) i = (var y, gather_joined x y r S R rest A e i)
    gather_name n b h x S R rest l k A unknown e (beside (node a us) r) i =
        gather_tied n x a us r S R rest A i
        (h (node a us) (record { next = S.next; numbers = S.numbers; unmet = r }) R rest (omega (arith, l, perm_length i)) (omega (arith, k, perm_length i)))

    gather_tree : (n b : ℕ) → Gathers n b → {s : Sort} (t : Tree s) (S R : Reader) (rest : List ℕ)
        → length S.unmet ≤ b
        → length S.unmet ≤ n → Along (names t ++ rest) S R → Gathered n t S R rest
    gather_tree n b h (var x) S R rest l k A =
        let g = gather_name n b h x S R rest l k A (find x S.numbers) refl (pick x S.unmet) (pick_is x S.unmet) in
        record {
          tree = g.0;
          made = subst (λ q. Made (var x) S rest q g.0 (read 0 g.0 R)) (sym (read_name n x S k)) g.1;
        }
    gather_tree n b h (node a ts) S R rest l k A =
        let g = gather_tree n b h ts S R rest l k A in
        let m = g.made in
        record {
          tree = node a g.tree;
          made =
              subst
              (λ q. Made (node a ts) S rest q (node a g.tree) (read 0 (node a g.tree) R))
              (sym (read-node n a ts S))
              (record {
                shown = ap (node a) m.shown;
                along = m.along;
                fewer = m.fewer;
                shrinks = m.shrinks;
                settled = m.settled;
                kept = m.kept;
                long = refl;
                tops = λ h. tt;
                reach =
                    λ c o v.
                    m.reach
                    (within a c)
                    (map-allowed (Unit {0}) (Fit many (within a c)) (λ u. fit-within a c) ts (all_allowed ts))
                    v;
              });
        }
    gather_tree n b h nil S R rest l k A =
        record {
          tree = nil;
          made =
              subst
              (λ q. Made nil S rest q nil (read 0 nil R))
              (sym (read-nil n S))
              (record {
                shown = refl;
                along = A;
                fewer = λ z. omega arith;
                shrinks = λ z. omega arith;
                settled = λ z q. absurd (omega (arith, q));
                kept = whole (stuck S.unmet);
                long = refl;
                tops = λ h. tt;
                reach = λ c o v. stay (plug c nil) S.unmet;
              });
        }
    gather_tree n b h (cons t ts) S R rest l k A =
        let B = subst (λ xs. Along xs S R) (append_assoc (names t) (names ts) rest) A in
        let g = gather_tree n b h t S R (names ts ++ rest) l k B in
        let w = read-agree n n t S k k in
        let f =
        gather_tree
        n
        b
        h
        ts
        (read n t S).after
        (read 0 g.tree R).after
        rest
        (omega (arith, l, w.fewer))
        (omega (arith, k, w.fewer))
        g.made.along in
        gather_more n t ts S R rest g f
      where
        gather_more : (n : ℕ) (t : Term) (ts : Terms) (S R : Reader) (rest : List ℕ) (g : Gathered n t S R (names ts ++ rest))
            → Gathered n ts (read n t S).after (read 0 g.tree R).after rest → Gathered n (cons t ts) S R rest
        gather_more n t ts S R rest g f =
            record {
              tree = cons g.tree f.tree;
              made =
                  subst
                  (λ q. Made (cons t ts) S rest q (cons g.tree f.tree) (read 0 (cons g.tree f.tree) R))
                  (sym (read-cons n t ts S))
                  (record {
                    shown = ap₂ cons g.made.shown f.made.shown;
                    along = f.made.along;
                    fewer =
                        λ z. omega (
                          arith,
                          g.made.fewer z,
                          f.made.fewer z,
                          sum-append (δ z) (names t) (names ts),
                          sum-append (δ z) (names g.tree) (names f.tree),
                        );
                    shrinks = λ z. omega (arith, g.made.shrinks z, f.made.shrinks z);
                    settled = λ z q. here z (dec_lt 0 (count z (names g.tree))) q;
                    kept = step f.made.kept g.made.kept;
                    long = ap suc f.made.long;
                    tops = λ h. (g.made.tops h.0, f.made.tops h.1);
                    reach =
                        λ c o v.
                        join
                        (plug c (cons t ts))
                        (plug c (cons g.tree ts))
                        (plug c (cons g.tree f.tree))
                        S.unmet
                        (read n t S).after.unmet
                        (read n ts (read n t S).after).after.unmet
                        (g.made.reach (head ts c) (map-allowed (Fit many c) (Fit one (head ts c)) (fit-head ts c) t o.0) v)
                        (f.made.reach
                        (tail g.tree c)
                        (map-allowed (Fit many c) (Fit many (tail g.tree c)) (fit-tail g.tree c) ts o.1)
                        (λ z. omega (
                          arith,
                          v z,
                          g.made.fewer z,
                          plug-count z (head ts c) t,
                          plug-count z (head ts c) g.tree,
                        )));
                  });
            }
          where
            here : (z : ℕ) → Dec (0 < count z (names g.tree)) → 0 < count z (names g.tree ++ names f.tree)
                → touches z (read n ts (read n t S).after).after.unmet ≡ 0
            here z (yes p) q = omega (arith, g.made.settled z p, f.made.shrinks z)
            here z (no p) q = f.made.settled z (omega (
              arith,
              p,
              q,
              sum-append (δ z) (names g.tree) (names f.tree),
            ))

    gathers : (n b : ℕ) → Gathers n b
    gathers n zero t S R rest l k A = absurd (omega (arith, l))
    gathers n (suc b) t S R rest l k A = gather_tree n b (gathers n b) t S R rest (omega (arith, l)) k A

    pub gather : (n : ℕ) {s : Sort} (t : Tree s) (S R : Reader) (rest : List ℕ) → length S.unmet ≤ n
        → Along (names t ++ rest) S R → Gathered n t S R rest
    gather n t S R rest k A = gather_tree n n (gathers n n) t S R rest k k A
