-- Each agent of a net is printed once or is in the knot; and the number that bounds a reading never cuts it short.
use Rattle.std.specs.Prelude.{◌≡◌, refl, [], List, ◌∷◌, ◌++◌, ℕ, zero, suc, ◌+◌, ◌≤◌, ◌<◌, length}
use Rattle.std.proofs.Common.{◌∙◌, ap, arith}
use Rattle.calculus.specs.Terms.{Sort, one, Tree, var, node, nil, cons, Term, Eqn, ◌≐◌, Conf}
use Rattle.calculus.proofs.Beneath.Perm.{perm_length}
use Rattle.answers.specs.Answer.{eqs_agents, net_agents, Pick, alone, beside, pick, Found, unknown, known, find}
use Rattle.answers.specs.Answer.{Reader, Reading, named, agent, then, read_by, read, stuck_pair, stuck, sides}
use Rattle.answers.specs.Answer.{agents, tie_agents, tied_agents, start, face_read, answer}
use Rattle.answers.proofs.Beneath.Order.{PickIs, pick_is}
use Rattle.answers.proofs.Beneath.Counts.{tied_agents-∼}

-- Two ways to read what is tied that agree where fewer than k equations are left; and what either loses of the agents: none.
pub record Agree {s : Sort} (t : Tree s) (S : Reader) (r q : Reading s) : Type 0 where
  pub equal : r ≡ q
  pub fewer : length r.after.unmet ≤ length S.unmet
  pub whole : agents r.shown + tied_agents r.after.unmet ≡ agents t + tied_agents S.unmet

module _ (k : ℕ) (f g : Term → Reader → Reading one) (h : (t : Term) (S : Reader) → length S.unmet < k → Agree t S (f t S) (g t S)) where
  named-agree : (x : ℕ) (S : Reader) → length S.unmet ≤ k → (d : Found) (p : Pick) → PickIs x S.unmet p
      → Agree (var x) S (named f x S d p) (named g x S d p)
  named-agree x S b (known j) p i = record { equal = refl; fewer = omega arith; whole = refl }
  named-agree x S b unknown alone i = record { equal = refl; fewer = omega arith; whole = refl }
  named-agree x S b unknown (beside (var y) r) i =
      record { equal = refl; fewer = omega (arith, perm_length i); whole = omega (arith, tied_agents-∼ i) }
  named-agree x S b unknown (beside (node a ts) r) i =
      let q = h (node a ts) (record { next = S.next; numbers = S.numbers; unmet = r }) (omega (arith, b, perm_length i)) in
      record { equal = q.equal; fewer = omega (arith, q.fewer, perm_length i); whole = omega (arith, q.whole, tied_agents-∼ i) }

  read_by-agree : {s : Sort} (t : Tree s) (S : Reader) → length S.unmet ≤ k
      → Agree t S (read_by f t S) (read_by g t S)
  read_by-agree (var x) S b = named-agree x S b (find x S.numbers) (pick x S.unmet) (pick_is x S.unmet)
  read_by-agree (node a ts) S b =
      let q = read_by-agree ts S b in
      record { equal = ap (agent a) q.equal; fewer = q.fewer; whole = omega (arith, q.whole) }
  read_by-agree nil S b = record { equal = refl; fewer = omega arith; whole = refl }
  read_by-agree (cons t ts) S b =
      let q = read_by-agree t S b in
      let r = read_by-agree ts (read_by f t S).after (omega (arith, b, q.fewer)) in
      record {
        equal =
            ap (then (read_by f t S).shown) r.equal ∙ ap (λ z. then z.shown (read_by g ts z.after)) q.equal;
        fewer = omega (arith, r.fewer, q.fewer);
        whole = omega (arith, r.whole, q.whole);
      }

pub read-agree : (n m : ℕ) {s : Sort} (t : Tree s) (S : Reader) → length S.unmet ≤ n → length S.unmet ≤ m
    → Agree t S (read n t S) (read m t S)
read-agree zero zero t S b c =
    read_by-agree 0 (λ u R. record { shown = var 0; after = R }) (λ u R. record { shown = var 0; after = R }) (λ u R a. absurd (omega (arith, a))) t S b
read-agree zero (suc m) t S b c =
    read_by-agree 0 (λ u R. record { shown = var 0; after = R }) (read m) (λ u R a. absurd (omega (arith, a))) t S b
read-agree (suc n) zero t S b c =
    read_by-agree 0 (read n) (λ u R. record { shown = var 0; after = R }) (λ u R a. absurd (omega (arith, a))) t S c
read-agree (suc n) (suc m) t S b c =
    read_by-agree
    (length S.unmet)
    (read n)
    (read m)
    (λ u R a. read-agree n m u R (omega (arith, a, b)) (omega (arith, a, c)))
    t
    S
    (omega arith)

-- A bound that is not below the number of the equations left does not matter.
pub read-enough : (n m : ℕ) {s : Sort} (t : Tree s) (S : Reader) → length S.unmet ≤ n → length S.unmet ≤ m
    → read n t S ≡ read m t S
read-enough n m t S b c = (read-agree n m t S b c).equal

pair-agents : (t u : Term) (l : List Eqn)
    → agents (sides (stuck_pair t u ++ l)) + tie_agents t u ≡ agents t + agents u + agents (sides l)
pair-agents (var x) u l = omega arith
pair-agents (node a ts) (var y) l = omega arith
pair-agents (node a ts) (node b us) l = omega arith

pub stuck-agents : (l : List Eqn) → agents (sides (stuck l)) + tied_agents l ≡ eqs_agents l
stuck-agents [] = refl
stuck-agents ((t ≐ u) ∷ l) = omega (arith, pair-agents t u (stuck l), stuck-agents l)

-- Each agent of a net is printed once, or it is in the knot.
pub all_told : (C : Conf) → agents (answer C).face + agents (answer C).pairs + (answer C).knot ≡ net_agents C
all_told C =
    let n = length C.eqs in
    let f = read-agree n n C.face (start C) (omega arith) (omega arith) in
    let p = read-agree n n (sides (stuck C.eqs)) (face_read C).after f.fewer f.fewer in
    omega (arith, f.whole, p.whole, stuck-agents C.eqs)
