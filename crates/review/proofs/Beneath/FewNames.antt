-- How many names are printed of a net: no more than occur in it, its loops left out.
use Rattle.std.specs.Prelude.{ℕ, ◌+◌, ◌*◌, ◌≤◌, ◌≡◌, refl, List, [], ◌∷◌, ◌++◌, length}
use Rattle.std.proofs.Common.{sym, ap, ◌∙◌, arith, length-append}
use Rattle.std.proofs.Math.Decide.{ℕ_discrete}
use Rattle.parts.specs.Limits.{names_max}
use Rattle.calculus.specs.Terms.{Sort, one, Tree, var, node, nil, cons, Term, Eqn, ◌≐◌, Conf, names, eqs_names, δ, count, if_eq, none, keep, swap, step, Sides, ◌∼◌}
use Rattle.calculus.proofs.Beneath.Count.{sum-append, if_yes, if_no}
use Rattle.model.specs.State.{St}
use Rattle.model.specs.Table.{Table}
use Rattle.model.specs.Reading.{circles}
use Rattle.model.specs.Sound.{Sound, meaning, live}
use Rattle.model.specs.Walk.{below}
use Rattle.model.proofs.Beneath.Pool.{in_range}
use Rattle.answers.specs.Answer.{Pick, alone, beside, pick, Found, unknown, known, find, Reader, Reading, named, read_by, read, stuck_pair, stuck, sides, start, face_read, answer}
use Rattle.answers.proofs.Beneath.Order.{PickIs, pick_is}
use Rattle.answers.proofs.Beneath.Tally.{members}

-- How often names occur in a tie or a join; a loop and a stuck pair do not count.
abbrev tie_names : Term → Term → ℕ
tie_names (var x) (var y) = if_eq x y 0 2
tie_names (var x) (node b us) = 1 + length (names us)
tie_names (node a ts) (var y) = 1 + length (names ts)
tie_names (node a ts) (node b us) = 0

abbrev tied_names : List Eqn → ℕ
tied_names [] = 0
tied_names ((t ≐ u) ∷ l) = tie_names t u + tied_names l

tie_names-turn : (t u : Term) → tie_names t u ≡ tie_names u t
tie_names-turn (var x) (var y) = go (ℕ_discrete x y)
  where
    go : Dec (x ≡ y) → if_eq {A = ℕ} x y 0 2 ≡ if_eq {A = ℕ} y x 0 2
    go (yes p) = if_yes 0 2 p ∙ sym (if_yes 0 2 (sym p))
    go (no q) = if_no 0 2 q ∙ sym (if_no 0 2 (λ e. q (sym e)))
tie_names-turn (var x) (node b us) = refl
tie_names-turn (node a ts) (var y) = refl
tie_names-turn (node a ts) (node b us) = refl

tie_names-sides : {t u s r : Term} → Sides (t ≐ u) (s ≐ r) → tie_names t u ≡ tie_names s r
tie_names-sides Sides.same = refl
tie_names-sides {t} {u} Sides.turn = tie_names-turn t u

tied_names-∼ : {l m : List Eqn} → l ∼ m → tied_names l ≡ tied_names m
tied_names-∼ none = refl
tied_names-∼ (keep {a = t ≐ u} {b = s ≐ r} e p) = omega (arith, tie_names-sides e, tied_names-∼ p)
tied_names-∼ (swap {a = t ≐ u} {b = s ≐ r}) = omega arith
tied_names-∼ (step p q) = tied_names-∼ p ∙ tied_names-∼ q

-- A reading shows no more names than it takes.
abbrev Few : {s : Sort} → ℕ → Tree s → Reader → Reading s → Type 0
Few n t S r = length (names r.shown) + tied_names r.after.unmet ≤ n + length (names t) + tied_names S.unmet

module _ (f : Term → Reader → Reading one) (h : (t : Term) (S : Reader) → Few 1 t S (f t S)) where
  named-few : (x : ℕ) (S : Reader) (d : Found) (p : Pick) → PickIs x S.unmet p → Few 0 (var x) S (named f x S d p)
  named-few x S (known k) p i = omega arith
  named-few x S unknown alone i = omega arith
  named-few x S unknown (beside (var y) r) i = omega (arith, tied_names-∼ i)
  named-few x S unknown (beside (node a ts) r) i =
      omega (arith, tied_names-∼ i, h (node a ts) (record { next = S.next; numbers = S.numbers; unmet = r }))

  read_by-few : {s : Sort} (t : Tree s) (S : Reader) → Few 0 t S (read_by f t S)
  read_by-few (var x) S = named-few x S (find x S.numbers) (pick x S.unmet) (pick_is x S.unmet)
  read_by-few (node a ts) S = read_by-few ts S
  read_by-few nil S = omega arith
  read_by-few (cons t ts) S =
      let p = read_by f t S in
      let q = read_by f ts p.after in
      omega (
        arith,
        read_by-few t S,
        read_by-few ts p.after,
        length-append (names t) (names ts),
        length-append (names p.shown) (names q.shown),
      )

read-few : (n : ℕ) {s : Sort} (t : Tree s) (S : Reader) → Few 0 t S (read n t S)
read-few ℕ.zero t S = read_by-few (λ u R. record { shown = var 0; after = R }) (λ u R. omega arith) t S
read-few (ℕ.suc n) t S = read_by-few (read n) (λ u R. omega (arith, read-few n u R)) t S

-- What occurs in equations is in stuck pairs, or in ties and joins, or in loops.
stuck-names : (l : List Eqn) → length (names (sides (stuck l))) + tied_names l ≤ length (eqs_names l)
stuck-names [] = omega arith
stuck-names ((t ≐ u) ∷ l) =
    omega (arith, pair t u (stuck l), stuck-names l, length-append (names t ++ names u) (eqs_names l), length-append (names t) (names u))
  where
    pair : (t u : Term) (l : List Eqn)
        → length (names (sides (stuck_pair t u ++ l))) + tie_names t u ≤ length (names t) + length (names u) + length (names (sides l))
    pair (var x) (var y) l = go (ℕ_discrete x y)
      where
        go : Dec (x ≡ y) → length (names (sides l)) + if_eq x y 0 2 ≤ 1 + 1 + length (names (sides l))
        go (yes p) = omega (arith, if_yes {A = ℕ} 0 2 p)
        go (no q) = omega (arith, if_no {A = ℕ} 0 2 q)
    pair (var x) (node b us) l = omega arith
    pair (node a ts) (var y) l = omega arith
    pair (node a ts) (node b us) l =
        omega (arith, length-append (names ts) (names us ++ names (sides l)), length-append (names us) (names (sides l)))

-- The loops of a state are none of these.
circles_tied : (l : List Eqn) (range k : ℕ) → tied_names (l ++ circles range k) ≡ tied_names l
circles_tied [] range ℕ.zero = refl
circles_tied [] range (ℕ.suc k) = omega (arith, if_yes {A = ℕ} {x = range + k} 0 2 refl, circles_tied [] range k)
circles_tied ((t ≐ u) ∷ l) range k = omega (arith, circles_tied l range k)

circles-stuck : (l : List Eqn) (range k : ℕ) → stuck (l ++ circles range k) ≡ stuck l
circles-stuck [] range ℕ.zero = refl
circles-stuck [] range (ℕ.suc k) = circles-stuck [] range k
circles-stuck ((t ≐ u) ∷ l) range k = ap (λ m. stuck_pair t u ++ m) (circles-stuck l range k)

without_loops : (l : List Eqn) (range k : ℕ)
    → length (names (sides (stuck (l ++ circles range k)))) + tied_names (l ++ circles range k) ≤ length (eqs_names l)
without_loops l range k =
    omega (arith, circles_tied l range k, ap (λ m. length (names (sides m))) (circles-stuck l range k), stuck-names l)

answer-few : (C : Conf)
    → length (names (answer C).face) + length (names (answer C).pairs)
    ≤ length (names C.face) + (length (names (sides (stuck C.eqs))) + tied_names C.eqs)
answer-few C =
    let f = read-few (length C.eqs) C.face (start C) in
    let p = read-few (length C.eqs) (sides (stuck C.eqs)) (face_read C).after in omega arith

-- Each name occurs twice, so of a sound state no more than twice as many are printed as there can be.
at_most_two : (n : ℕ) (f : ℕ → ℕ) → ((i : ℕ) → f i ≤ 2) → below n f ≤ 2 * n
at_most_two ℕ.zero f h = omega arith
at_most_two (ℕ.suc n) f h = omega (arith, at_most_two n f h, h n)

twice-few : (n : ℕ) (words l m : List ℕ) → length words ≡ n → ((x : ℕ) → count x l + count x m ≡ 2 * live words x)
    → length l + length m ≤ 2 * n
twice-few n words l m e twice =
    omega (
      arith,
      length-append l m,
      members n (l ++ m) (λ x o. omega (arith, in_range words x (omega (arith, o, often x)), e)),
      at_most_two n (λ x. count x (l ++ m)) (λ x. omega (arith, often x)),
    )
  where
    often : (x : ℕ) → count x (l ++ m) ≡ 2 * live words x
    often x = sum-append (δ x) l m ∙ twice x

pub few-printed : {T : Table} {s : St} (h : Sound T s)
    → length (names (answer (meaning h)).face) + length (names (answer (meaning h)).pairs) ≤ 2 * names_max
few-printed {T} {s} h =
    through
    (length (names h.reads.terms))
    (answer-few (meaning h))
    (without_loops h.reads.eqs names_max s.loops)
    (twice-few names_max s.names (names h.reads.terms) (eqs_names h.reads.eqs) h.sizes.names h.twice)
  where
    through : {a c d n : ℕ} (b : ℕ) → a ≤ b + c → c ≤ d → b + d ≤ n → a ≤ n
    through b p q r = omega arith
