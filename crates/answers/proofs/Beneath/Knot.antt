-- One net has one knot, in whichever order its stuck pairs are read.
use Rattle.std.specs.Prelude.{◌≡◌, refl, [], List, ◌∷◌, ◌++◌, ℕ, zero, suc, ◌≤◌, ◌<◌, length}
use Rattle.std.proofs.Common.{sym, ◌∙◌, ap, ap₂, subst, append_assoc, append-nil, arith}
use Rattle.std.proofs.Math.Decide.{ℕ_discrete}
use Rattle.calculus.specs.Terms.{none, keep, swap, step, Sort, one, Tree, var, node, nil, cons, Term, Eqn, ◌≐◌, Conf, touches}
use Rattle.calculus.specs.Terms.{Sides, ◌∼◌, names, eqn_names, eqs_names, Reordered}
use Rattle.calculus.proofs.Beneath.Perm.{perm_refl, perm_of_eq, perm_append, perm_exchange, Path_equivalence}
use Rattle.calculus.proofs.Beneath.Perm.{perm_length}
use Rattle.calculus.proofs.Beneath.Count.{δ_same, if_no}
use Rattle.calculus.proofs.Beneath.Ended.{touches-∼}
use Rattle.answers.specs.Answer.{Pick, alone, beside, pick, Numbered, Found, unknown, known, find, Reader}
use Rattle.answers.specs.Answer.{Reading, named, read_by, read, stuck, sides, tied_agents, start}
use Rattle.answers.specs.Answer.{face_read, pairs_read, answer}
use Rattle.answers.proofs.Beneath.Order.{PickIs, pick_is, rest-once}
use Rattle.answers.proofs.Beneath.Counts.{stuck-∼, tied_agents-∼}
use Rattle.answers.proofs.Beneath.Drain.{Once, went, drain_by, drain, drain_none, drain-alone, drain-tie}
use Rattle.answers.proofs.Beneath.Drain.{drain-enough, drain-∼, drain_reordered}

-- What is left was there.
abbrev Within : List Eqn → List Eqn → Type 0
Within l m = (length m ≤ length l) × ((z : ℕ) → touches z m ≤ touches z l)

drain_by-within : (f : List ℕ → List Eqn → List Eqn) → ((xs : List ℕ) (l : List Eqn) → Within l (f xs l))
    → (xs : List ℕ) (l : List Eqn) → Within l (drain_by f xs l)
drain_by-within f h [] l = (omega arith, λ z. omega arith)
drain_by-within f h (x ∷ xs) l = go (pick x l) (pick_is x l) (drain_by-within f h xs l)
  where
    go : (p : Pick) → PickIs x l p → Within l (drain_by f xs l) → Within l (went f xs p (drain_by f xs l))
    go alone i w = w
    go (beside t r) i w =
        let v = h (names t ++ xs) r in
        (omega (arith, v.0, perm_length i), λ z. omega (arith, v.1 z, touches-∼ z i))

pub drain-within : (n : ℕ) (xs : List ℕ) (l : List Eqn) → Within l (drain n xs l)
drain-within zero xs l = drain_by-within (λ ys m. m) (λ ys m. (omega arith, λ z. omega arith)) xs l
drain-within (suc n) xs l = drain_by-within (drain n) (drain-within n) xs l

-- To follow some names and then others.
abbrev Parts : ℕ → ℕ → Type 0
Parts n b = (xs ys : List ℕ) (l : List Eqn) → length l < b → length l ≤ n → drain n (xs ++ ys) l ≡ drain n ys (drain n xs l)

parts_more : (n b : ℕ) → Parts n b → (xs ys : List ℕ) (l : List Eqn) → length l ≤ b → length l ≤ n
    → drain n (xs ++ ys) l ≡ drain n ys (drain n xs l)
parts_more n b ih [] ys l a k = ap (drain n ys) (sym (drain_none n l))
parts_more n b ih (x ∷ xs) ys l a k = go (pick x l) refl (pick_is x l) (parts_more n b ih xs ys l a k)
  where
    go : (p : Pick) → pick x l ≡ p → PickIs x l p → drain n (xs ++ ys) l ≡ drain n ys (drain n xs l)
        → drain n (x ∷ (xs ++ ys)) l ≡ drain n ys (drain n (x ∷ xs) l)
    go alone e i d = drain-alone n x (xs ++ ys) l i ∙ d ∙ ap (drain n ys) (sym (drain-alone n x xs l i))
    go (beside t r) e i d =
        drain-tie n x (xs ++ ys) l t r e k
        ∙ ap (λ zs. drain n zs r) (sym (append_assoc (names t) xs ys))
        ∙ ih (names t ++ xs) ys r (omega (arith, a, perm_length i)) (omega (arith, k, perm_length i))
        ∙ ap (drain n ys) (sym (drain-tie n x xs l t r e k))

parts : (n b : ℕ) → Parts n b
parts n zero xs ys l a k = absurd (omega (arith, a))
parts n (suc b) xs ys l a k = parts_more n b (parts n b) xs ys l (omega (arith, a)) k

pub drain-append : (n : ℕ) (xs ys : List ℕ) (l : List Eqn) → length l ≤ n → drain n (xs ++ ys) l ≡ drain n ys (drain n xs l)
drain-append n xs ys l k = parts n (suc n) xs ys l (omega (arith, k)) k

-- A name that has a number is in no equation left.
pub record Fine (S : Reader) : Type 0 where
  pub once : Once S.unmet
  pub met : (x k : ℕ) → find x S.numbers ≡ known k → touches x S.unmet ≡ 0

-- What a reading leaves is what following the names leaves.
pub record Left (n : ℕ) (xs : List ℕ) (S R : Reader) : Type 0 where
  pub unmet : R.unmet ≡ drain n xs S.unmet
  pub fine : Fine R

pub unmet : {k : ℕ} → unknown ≡ known k → ⊥
unmet e = subst IsUnknown e tt
  where
    IsUnknown : Found → Type 0
    IsUnknown unknown = Unit {0}
    IsUnknown (known k) = ⊥

pub found_more : (e : Numbered) (l : List Numbered) (m : List Eqn) → touches e.name m ≡ 0
    → ((z k : ℕ) → find z l ≡ known k → touches z m ≡ 0) → (z k : ℕ) → find z (e ∷ l) ≡ known k → touches z m ≡ 0
found_more e l m h f z k g = go (ℕ_discrete z e.name)
  where
    go : Dec (z ≡ e.name) → touches z m ≡ 0
    go (yes p) = ap (λ y. touches y m) p ∙ h
    go (no q) = f z k (sym (if_no (known e.number) (find z l) q) ∙ g)

module _ (n : ℕ) (tied : Term → Reader → Reading one) (h : (t : Term) (S : Reader) → length S.unmet < n → Fine S → Left n (names t) S (tied t S).after) where
  named_left : (x : ℕ) (S : Reader) → length S.unmet ≤ n → Fine S → (f : Found) → find x S.numbers ≡ f
      → (p : Pick) → pick x S.unmet ≡ p
      → PickIs x S.unmet p → Left n (x ∷ []) S (named tied x S f p).after
  named_left x S k s (known j) g p e i = record { unmet = sym (drain_none n S.unmet) ∙ sym (drain-alone n x [] S.unmet (s.met x j g)); fine = s }
  named_left x S k s unknown g alone e i =
      record {
        unmet = sym (drain_none n S.unmet) ∙ sym (drain-alone n x [] S.unmet i);
        fine =
            record {
              once = s.once;
              met = found_more (record { name = x; number = S.next }) S.numbers S.unmet i s.met;
            };
      }
  named_left x S k s unknown g (beside (var y) r) e i =
      record {
        unmet = sym (drain_none n r) ∙ sym (drain-alone n y [] r y_not) ∙ sym (drain-tie n x [] S.unmet (var y) r e k);
        fine =
            record {
              once = rest-once i s.once;
              met =
                  found_more
                  (record { name = x; number = S.next })
                  (record { name = y; number = S.next } ∷ S.numbers)
                  r
                  (omega (arith, s.once x, touches-∼ x i, δ_same x))
                  (found_more
                  (record { name = y; number = S.next })
                  S.numbers
                  r
                  y_not
                  (λ z j q. omega (arith, s.met z j q, touches-∼ z i)));
            };
      }
    where
      y_not : touches y r ≡ 0
      y_not = omega (arith, s.once y, touches-∼ y i, δ_same y)
  named_left x S k s unknown g (beside (node a ts) r) e i =
      let q =
      h
      (node a ts)
      (record { next = S.next; numbers = S.numbers; unmet = r })
      (omega (arith, k, perm_length i))
      (record { once = rest-once i s.once; met = λ z j q. omega (arith, s.met z j q, touches-∼ z i) }) in
      record {
        unmet =
            q.unmet ∙ ap (λ zs. drain n zs r) (sym (append-nil (names ts))) ∙ sym (drain-tie n x [] S.unmet (node a ts) r e k);
        fine = q.fine;
      }

  read_by_left : {s : Sort} (t : Tree s) (S : Reader) → length S.unmet ≤ n → Fine S
      → Left n (names t) S (read_by tied t S).after
  read_by_left (var x) S k s =
      named_left x S k s (find x S.numbers) refl (pick x S.unmet) refl (pick_is x S.unmet)
  read_by_left (node a ts) S k s = read_by_left ts S k s
  read_by_left nil S k s = record { unmet = sym (drain_none n S.unmet); fine = s }
  read_by_left (cons t ts) S k s =
      let r = read_by_left t S k s in
      let w = drain-within n (names t) S.unmet in
      let q = read_by_left ts (read_by tied t S).after (omega (arith, k, w.0, ap length r.unmet)) r.fine in
      record { unmet = q.unmet ∙ ap (drain n (names ts)) r.unmet ∙ sym (drain-append n (names t) (names ts) S.unmet k); fine = q.fine }

pub read_left : (n : ℕ) {s : Sort} (t : Tree s) (S : Reader) → length S.unmet ≤ n → Fine S
    → Left n (names t) S (read n t S).after
read_left zero t S k s = read_by_left 0 (λ u R. record { shown = var 0; after = R }) (λ u R a f. absurd (omega (arith, a))) t S k s
read_left (suc n) t S k s =
    read_by_left
    (suc n)
    (read n)
    (λ u R a f.
    let q = read_left n u R (omega (arith, a)) f in
    record { unmet = q.unmet ∙ drain-enough n (suc n) (names u) R.unmet (omega (arith, a)) (omega (arith, a)); fine = q.fine })
    t
    S
    k
    s

-- The sides of stuck pairs in another order have their names in another order.
two_names : (t u : Term) (l : List Eqn) → names (sides ((t ≐ u) ∷ l)) ≡ eqn_names (t ≐ u) ++ names (sides l)
two_names t u l = sym (append_assoc (names t) (names u) (names (sides l)))

sides-names : (l : List Eqn) → names (sides l) ≡ eqs_names l
sides-names [] = refl
sides-names ((t ≐ u) ∷ l) = two_names t u l ∙ ap (λ m. eqn_names (t ≐ u) ++ m) (sides-names l)

eqn_reordered : {d e : Eqn} → Sides d e → Reordered (eqn_names d) (eqn_names e)
eqn_reordered {d} Sides.same = perm_refl Path_equivalence (eqn_names d)
eqn_reordered (Sides.turn {t = t} {u = u}) =
    subst
    (λ l. Reordered (names t ++ names u) (names u ++ l))
    (append-nil (names t))
    (subst (λ l. Reordered (names t ++ l) (names u ++ (names t ++ []))) (append-nil (names u)) (perm_exchange Path_equivalence (names t) (names u) []))

eqs_reordered : {l m : List Eqn} → l ∼ m → Reordered (eqs_names l) (eqs_names m)
eqs_reordered none = none
eqs_reordered (keep e p) = perm_append Path_equivalence (eqn_reordered e) (eqs_reordered p)
eqs_reordered (swap {a = a} {b = b} {l = l}) = perm_exchange Path_equivalence (eqn_names a) (eqn_names b) (eqs_names l)
eqs_reordered (step p q) = step (eqs_reordered p) (eqs_reordered q)

sides_reordered : {l m : List Eqn} → l ∼ m → Reordered (names (sides l)) (names (sides m))
sides_reordered {l} {m} p =
    step
    (perm_of_eq Path_equivalence (sides-names l))
    (step (eqs_reordered p) (perm_of_eq Path_equivalence (sym (sides-names m))))

-- The equations never met, by the names that are followed.
pub left_over : (C : Conf) → Once C.eqs
    → (pairs_read C).after.unmet ≡ drain (length C.eqs) (names (sides (stuck C.eqs))) (drain (length C.eqs) (names C.face) C.eqs)
left_over C o =
    let n = length C.eqs in
    let f = read_left n C.face (start C) (omega arith) (record { once = o; met = λ x k e. absurd (unmet e) }) in
    let w = drain-within n (names C.face) C.eqs in
    let p =
    read_left n (sides (stuck C.eqs)) (face_read C).after (omega (arith, w.0, ap length f.unmet)) f.fine in
    p.unmet ∙ ap (drain n (names (sides (stuck C.eqs)))) f.unmet

pub knot-alike : {C D : Conf} → C.face ≡ D.face → C.eqs ∼ D.eqs → Once C.eqs
    → (answer C).knot ≡ (answer D).knot
knot-alike {C} {D} e p o =
    ap tied_agents (left_over C o)
    ∙ tied_agents-∼ (step
    (drain_reordered n (sides_reordered (stuck-∼ p)) (drain n (names C.face) C.eqs) w.0 once)
    (drain-∼ n (names (sides (stuck D.eqs))) (drain n (names C.face) C.eqs) (drain n (names C.face) D.eqs) (drain-∼ n (names C.face) C.eqs D.eqs p o) once))
    ∙ ap₂ (λ m t. tied_agents (drain m (names (sides (stuck D.eqs))) (drain m (names t) D.eqs))) (perm_length p) e
    ∙ ap tied_agents (sym (left_over D (λ x. omega (arith, o x, touches-∼ x p))))
  where
    n : ℕ
    n = length C.eqs

    w : Within C.eqs (drain n (names C.face) C.eqs)
    w = drain-within n (names C.face) C.eqs

    once : Once (drain n (names C.face) C.eqs)
    once x = omega (arith, o x, w.1 x)
