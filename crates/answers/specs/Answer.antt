-- What the printed answer of an ended net is (document 01, "Reading the end").
use Rattle.std.specs.Prelude.{List, [], ◌∷◌, ◌++◌, ℕ, zero, suc, ◌+◌, length}
use Rattle.calculus.specs.Terms.{Sort, one, many, Tree, var, node, nil, cons, Term, Terms, Eqn, ◌≐◌, Conf, if_eq}

-- At an end a name is a side of one equation at most. Where x is a side, x is tied if the other side is an agent, and
-- joined if it is a name. Here is that other side.
pub data Other : Type 0 where
  none : Other
  some : Term → Other

abbrev pub if_name : ℕ → Term → Other → Other → Other
if_name x (var y) a b = if_eq x y a b
if_name x (node s ts) a b = b

abbrev pub other : ℕ → Eqn → Other
other x (t ≐ u) = if_name x t (some u) (if_name x u (some t) none)

-- To follow a name takes its equation out: the other side, and the equations that remain. So no equation is followed
-- twice, and nothing is ever put into a term that a name stands in: what is not met stays as it is.
pub data Pick : Type 0 where
  alone : Pick
  beside : Term → List Eqn → Pick

abbrev pub picked : Eqn → List Eqn → Other → Pick → Pick
picked e l (some t) p = beside t l
picked e l none alone = alone
picked e l none (beside t r) = beside t (e ∷ r)

abbrev pub pick : ℕ → List Eqn → Pick
pick x [] = alone
pick x (e ∷ l) = picked e l (other x e) (pick x l)

-- The names left that were met, each with its number.
pub record Numbered : Type 0 where
  pub name : ℕ
  pub number : ℕ

pub data Found : Type 0 where
  unknown : Found
  known : ℕ → Found

abbrev pub find : ℕ → List Numbered → Found
find x [] = unknown
find x (e ∷ l) = if_eq x e.name (known e.number) (find x l)

-- While the end is read: the next number, the numbers given, and the equations not met.
pub record Reader : Type 0 where
  pub next : ℕ
  pub numbers : List Numbered
  pub unmet : List Eqn

-- What was read: the term as printed, in which `var k` is `_k`, and the reader after it.
pub record Reading (s : Sort) : Type 0 where
  pub shown : Tree s
  pub after : Reader

-- Names left take the next number: one name, or two that are joined; l are the equations then not met.
abbrev pub take_number : List Numbered → Reader → List Eqn → Reading one
take_number ns S l = record { shown = var S.next; after = record { next = suc S.next; numbers = ns; unmet = l } }

abbrev pub with_next : ℕ → Reader → Numbered
with_next x S = record { name = x; number = S.next }

-- "A tied name reads as its term, to whatever depth. Two joined names are one. Names left are printed `_0`, `_1` by
-- first meeting."
abbrev pub named : (Term → Reader → Reading one) → ℕ → Reader → Found → Pick → Reading one
named tied x S (known k) p = record { shown = var k; after = S }
named tied x S unknown alone = take_number (with_next x S ∷ S.numbers) S S.unmet
named tied x S unknown (beside (var y) l) = take_number (with_next x S ∷ with_next y S ∷ S.numbers) S l
named tied x S unknown (beside (node a ts) l) =
    tied (node a ts) (record { next = S.next; numbers = S.numbers; unmet = l })

abbrev pub agent : ℕ → Reading many → Reading one
agent a r = record { shown = node a r.shown; after = r.after }

abbrev pub then : Tree one → Reading many → Reading many
then t r = record { shown = cons t r.shown; after = r.after }

-- Read from left to right, where it is known how to read what is tied.
abbrev pub read_by : (Term → Reader → Reading one) → {s : Sort} → Tree s → Reader → Reading s
read_by tied (var x) S = named tied x S (find x S.numbers) (pick x S.unmet)
read_by tied (node a ts) S = agent a (read_by tied ts S)
read_by tied nil S = record { shown = nil; after = S }
read_by tied (cons t ts) S = then (read_by tied t S).shown (read_by tied ts (read_by tied t S).after)

-- Read, where so many ties at most are met one within another. As each tie met is an equation less, the number of the
-- equations is enough (`enough`).
abbrev pub read : ℕ → {s : Sort} → Tree s → Reader → Reading s
read zero t S = read_by (λ u R. record { shown = var 0; after = R }) t S
read (suc n) t S = read_by (read n) t S

-- The stuck pairs, in order; and their sides.
abbrev pub stuck_pair : Term → Term → List Eqn
stuck_pair (var x) u = []
stuck_pair (node a ts) (var y) = []
stuck_pair (node a ts) (node b us) = (node a ts ≐ node b us) ∷ []

abbrev pub stuck : List Eqn → List Eqn
stuck [] = []
stuck ((t ≐ u) ∷ l) = stuck_pair t u ++ stuck l

abbrev pub sides : List Eqn → Terms
sides [] = nil
sides ((t ≐ u) ∷ l) = cons t (cons u (sides l))

-- The loops x = x.
abbrev pub loop : Term → Term → ℕ
loop (var x) (var y) = if_eq x y 1 0
loop (var x) (node b us) = 0
loop (node a ts) u = 0

abbrev pub loops : List Eqn → ℕ
loops [] = 0
loops ((t ≐ u) ∷ l) = loop t u + loops l

-- The agents of a term, those that names are tied to, and those of a net.
abbrev pub agents : {s : Sort} → Tree s → ℕ
agents (var x) = 0
agents (node a ts) = suc (agents ts)
agents nil = 0
agents (cons t ts) = agents t + agents ts

abbrev pub tie_agents : Term → Term → ℕ
tie_agents (var x) u = agents u
tie_agents (node a ts) (var y) = suc (agents ts)
tie_agents (node a ts) (node b us) = 0

abbrev pub tied_agents : List Eqn → ℕ
tied_agents [] = 0
tied_agents ((t ≐ u) ∷ l) = tie_agents t u + tied_agents l

abbrev pub eqs_agents : List Eqn → ℕ
eqs_agents [] = 0
eqs_agents ((t ≐ u) ∷ l) = agents t + agents u + eqs_agents l

abbrev pub net_agents : Conf → ℕ
net_agents C = agents C.face + eqs_agents C.eqs

-- The answer of an ended net: its interface and its stuck pairs as printed (both sides of each pair in turn), how many
-- stuck pairs and loops there are, and the agents never met: "Cells never met are the knot; their number is reported."
pub record Answer : Type 0 where
  pub face : Terms
  pub pairs : Terms
  pub stuck : ℕ
  pub loops : ℕ
  pub knot : ℕ

abbrev pub start : Conf → Reader
start C = record { next = 0; numbers = []; unmet = C.eqs }

-- "Terms are read from the interface left to right, then the stuck pairs from the head, left side first."
abbrev pub face_read : Conf → Reading many
face_read C = read (length C.eqs) C.face (start C)

abbrev pub pairs_read : Conf → Reading many
pairs_read C = read (length C.eqs) (sides (stuck C.eqs)) (face_read C).after

-- The knot is the agents of the ties that were never followed, such as x = S(x).
abbrev pub answer : Conf → Answer
answer C =
    record {
      face = (face_read C).shown;
      pairs = (pairs_read C).shown;
      stuck = length (stuck C.eqs);
      loops = loops C.eqs;
      knot = tied_agents (pairs_read C).after.unmet;
    }
