-- The answer does not depend on the names.
use Rattle.std.specs.Prelude.{◌≡◌, refl, [], List, ◌∷◌, ◌++◌, map, ℕ, zero, suc, ◌+◌, length}
use Rattle.std.proofs.Common.{sym, ◌∙◌, ap, ap₂}
use Rattle.std.proofs.Math.Decide.{ℕ_discrete}
use Rattle.calculus.specs.Terms.{Sort, one, Tree, var, node, nil, cons, Term, Terms, Eqn, ◌≐◌, Conf, sub, sub_eqn}
use Rattle.calculus.specs.Terms.{ren, if_eq}
use Rattle.calculus.specs.Nets.{Renaming}
use Rattle.calculus.proofs.Beneath.Rename.{rename}
use Rattle.calculus.proofs.Beneath.Count.{if_yes, if_no}
use Rattle.answers.specs.Answer.{Other, none, some, if_name, other, Pick, alone, beside, picked, pick, Numbered}
use Rattle.answers.specs.Answer.{Found, unknown, known, find, Reader, Reading, named, agent, then, read_by}
use Rattle.answers.specs.Answer.{read, stuck_pair, stuck, sides, loop, loops, agents, tie_agents, tied_agents}
use Rattle.answers.specs.Answer.{start, face_read, pairs_read, answer}

pub if_eq-map : {A B : Type 0} (f : A → B) (x y : ℕ) (a b : A) → f (if_eq x y a b) ≡ if_eq x y (f a) (f b)
if_eq-map f x y a b = go (ℕ_discrete x y)
  where
    go : Dec (x ≡ y) → f (if_eq x y a b) ≡ if_eq x y (f a) (f b)
    go (yes p) = ap f (if_yes a b p) ∙ sym (if_yes (f a) (f b) p)
    go (no q) = ap f (if_no a b q) ∙ sym (if_no (f a) (f b) q)

pub if_eq_to : {A : Type 0} (π : Renaming) (x y : ℕ) (a b : A) → if_eq (π.to x) (π.to y) a b ≡ if_eq x y a b
if_eq_to π x y a b = go (ℕ_discrete x y)
  where
    go : Dec (x ≡ y) → if_eq (π.to x) (π.to y) a b ≡ if_eq x y a b
    go (yes p) = if_yes a b (ap π.to p) ∙ sym (if_yes a b p)
    go (no q) = if_no a b (λ e. q (sym (π.from_to x) ∙ ap π.from e ∙ π.from_to y)) ∙ sym (if_no a b q)

-- What is renamed, renamed.
abbrev pub other_to : Renaming → Other → Other
other_to π none = none
other_to π (some t) = some (sub (ren π.to) t)

abbrev pub eqs_to : Renaming → List Eqn → List Eqn
eqs_to π l = map (sub_eqn (ren π.to)) l

abbrev pub pick_to : Renaming → Pick → Pick
pick_to π alone = alone
pick_to π (beside t l) = beside (sub (ren π.to) t) (eqs_to π l)

abbrev pub number_to : Renaming → Numbered → Numbered
number_to π e = record { name = π.to e.name; number = e.number }

abbrev pub state_to : Renaming → Reader → Reader
state_to π S = record { next = S.next; numbers = map (number_to π) S.numbers; unmet = eqs_to π S.unmet }

abbrev pub reading_to : Renaming → {s : Sort} → Reading s → Reading s
reading_to π r = record { shown = r.shown; after = state_to π r.after }

if_name-rename : (π : Renaming) (x : ℕ) (t : Term) (a b : Other)
    → if_name (π.to x) (sub (ren π.to) t) (other_to π a) (other_to π b) ≡ other_to π (if_name x t a b)
if_name-rename π x (var y) a b = if_eq_to π x y (other_to π a) (other_to π b) ∙ sym (if_eq-map (other_to π) x y a b)
if_name-rename π x (node s ts) a b = refl

pub other_rename : (π : Renaming) (x : ℕ) (e : Eqn) → other (π.to x) (sub_eqn (ren π.to) e) ≡ other_to π (other x e)
other_rename π x (t ≐ u) =
    ap (if_name (π.to x) (sub (ren π.to) t) (some (sub (ren π.to) u))) (if_name-rename π x u (some t) none)
    ∙ if_name-rename π x t (some u) (if_name x u (some t) none)

picked-rename : (π : Renaming) (e : Eqn) (l : List Eqn) (o : Other) (p : Pick)
    → picked (sub_eqn (ren π.to) e) (eqs_to π l) (other_to π o) (pick_to π p) ≡ pick_to π (picked e l o p)
picked-rename π e l (some t) p = refl
picked-rename π e l none alone = refl
picked-rename π e l none (beside t r) = refl

pub pick-rename : (π : Renaming) (x : ℕ) (l : List Eqn) → pick (π.to x) (eqs_to π l) ≡ pick_to π (pick x l)
pick-rename π x [] = refl
pick-rename π x (e ∷ l) =
    ap₂ (picked (sub_eqn (ren π.to) e) (eqs_to π l)) (other_rename π x e) (pick-rename π x l) ∙ picked-rename π e l (other x e) (pick x l)

pub find-rename : (π : Renaming) (x : ℕ) (l : List Numbered) → find (π.to x) (map (number_to π) l) ≡ find x l
find-rename π x [] = refl
find-rename π x (e ∷ l) =
    if_eq_to π x e.name (known e.number) (find (π.to x) (map (number_to π) l)) ∙ ap (if_eq x e.name (known e.number)) (find-rename π x l)

-- How to read what is tied does not depend on the names.
abbrev Equivariant : Renaming → (Term → Reader → Reading one) → Type 0
Equivariant π tied = (t : Term) (S : Reader) → tied (sub (ren π.to) t) (state_to π S) ≡ reading_to π (tied t S)

named-rename : (π : Renaming) (tied : Term → Reader → Reading one) → Equivariant π tied
    → (x : ℕ) (S : Reader) (f : Found) (p : Pick)
    → named tied (π.to x) (state_to π S) f (pick_to π p) ≡ reading_to π (named tied x S f p)
named-rename π tied h x S (known k) p = refl
named-rename π tied h x S unknown alone = refl
named-rename π tied h x S unknown (beside (var y) l) = refl
named-rename π tied h x S unknown (beside (node a ts) l) = h (node a ts) (record { next = S.next; numbers = S.numbers; unmet = l })

read_by-rename : (π : Renaming) (tied : Term → Reader → Reading one) → Equivariant π tied
    → {s : Sort} (t : Tree s) (S : Reader)
    → read_by tied (sub (ren π.to) t) (state_to π S) ≡ reading_to π (read_by tied t S)
read_by-rename π tied h (var x) S =
    ap₂ (named tied (π.to x) (state_to π S)) (find-rename π x S.numbers) (pick-rename π x S.unmet)
    ∙ named-rename π tied h x S (find x S.numbers) (pick x S.unmet)
read_by-rename π tied h (node a ts) S = ap (agent a) (read_by-rename π tied h ts S)
read_by-rename π tied h nil S = refl
read_by-rename π tied h (cons t ts) S =
    ap (λ r. then r.shown (read_by tied (sub (ren π.to) ts) r.after)) (read_by-rename π tied h t S)
    ∙ ap (then (read_by tied t S).shown) (read_by-rename π tied h ts (read_by tied t S).after)

-- A reading does not depend on the names.
pub read-rename : (π : Renaming) (n : ℕ) {s : Sort} (t : Tree s) (S : Reader)
    → read n (sub (ren π.to) t) (state_to π S) ≡ reading_to π (read n t S)
read-rename π zero t S = read_by-rename π (λ u R. record { shown = var 0; after = R }) (λ u R. refl) t S
read-rename π (suc n) t S = read_by-rename π (read n) (λ u R. read-rename π n u R) t S

-- Nor do the counts.
pub agents-rename : (π : Renaming) {s : Sort} (t : Tree s) → agents (sub (ren π.to) t) ≡ agents t
agents-rename π (var x) = refl
agents-rename π (node a ts) = ap suc (agents-rename π ts)
agents-rename π nil = refl
agents-rename π (cons t ts) = ap₂ ◌+◌ (agents-rename π t) (agents-rename π ts)

tie_agents-rename : (π : Renaming) (t u : Term)
    → tie_agents (sub (ren π.to) t) (sub (ren π.to) u) ≡ tie_agents t u
tie_agents-rename π (var x) u = agents-rename π u
tie_agents-rename π (node a ts) (var y) = ap suc (agents-rename π ts)
tie_agents-rename π (node a ts) (node b us) = refl

pub tied_agents-rename : (π : Renaming) (l : List Eqn) → tied_agents (eqs_to π l) ≡ tied_agents l
tied_agents-rename π [] = refl
tied_agents-rename π ((t ≐ u) ∷ l) = ap₂ ◌+◌ (tie_agents-rename π t u) (tied_agents-rename π l)

loop-rename : (π : Renaming) (t u : Term) → loop (sub (ren π.to) t) (sub (ren π.to) u) ≡ loop t u
loop-rename π (var x) (var y) = if_eq_to π x y 1 0
loop-rename π (var x) (node b us) = refl
loop-rename π (node a ts) u = refl

pub loops-rename : (π : Renaming) (l : List Eqn) → loops (eqs_to π l) ≡ loops l
loops-rename π [] = refl
loops-rename π ((t ≐ u) ∷ l) = ap₂ ◌+◌ (loop-rename π t u) (loops-rename π l)

pub length-rename : (π : Renaming) (l : List Eqn) → length (eqs_to π l) ≡ length l
length-rename π [] = refl
length-rename π (e ∷ l) = ap suc (length-rename π l)

stuck_pair-rename : (π : Renaming) (t u : Term) (l : List Eqn)
    → stuck_pair (sub (ren π.to) t) (sub (ren π.to) u) ++ eqs_to π l ≡ eqs_to π (stuck_pair t u ++ l)
stuck_pair-rename π (var x) u l = refl
stuck_pair-rename π (node a ts) (var y) l = refl
stuck_pair-rename π (node a ts) (node b us) l = refl

pub stuck-rename : (π : Renaming) (l : List Eqn) → stuck (eqs_to π l) ≡ eqs_to π (stuck l)
stuck-rename π [] = refl
stuck-rename π ((t ≐ u) ∷ l) =
    ap (λ m. stuck_pair (sub (ren π.to) t) (sub (ren π.to) u) ++ m) (stuck-rename π l) ∙ stuck_pair-rename π t u (stuck l)

pub sides-rename : (π : Renaming) (l : List Eqn) → sides (eqs_to π l) ≡ sub (ren π.to) (sides l)
sides-rename π [] = refl
sides-rename π ((t ≐ u) ∷ l) = ap (λ ts. cons (sub (ren π.to) t) (cons (sub (ren π.to) u) ts)) (sides-rename π l)

face-rename : (π : Renaming) (C : Conf) → face_read (rename π.to C) ≡ reading_to π (face_read C)
face-rename π C =
    ap (λ n. read n (sub (ren π.to) C.face) (state_to π (start C))) (length-rename π C.eqs) ∙ read-rename π (length C.eqs) C.face (start C)

pairs-rename : (π : Renaming) (C : Conf) → pairs_read (rename π.to C) ≡ reading_to π (pairs_read C)
pairs-rename π C =
    ap
    (λ n. read n (sides (stuck (eqs_to π C.eqs))) (face_read (rename π.to C)).after)
    (length-rename π C.eqs)
    ∙ ap₂
    (read (length C.eqs))
    (ap sides (stuck-rename π C.eqs) ∙ sides-rename π (stuck C.eqs))
    (ap (λ r. r.after) (face-rename π C))
    ∙ read-rename π (length C.eqs) (sides (stuck C.eqs)) (face_read C).after

-- The whole answer of a renamed net is that of the net.
pub answer-rename : (π : Renaming) (C : Conf) → answer (rename π.to C) ≡ answer C
answer-rename π C =
    ap₂
    (λ (f p : Terms). record { face = f; pairs = p; stuck = length (stuck (eqs_to π C.eqs)); loops = loops (eqs_to π C.eqs); knot = tied_agents (pairs_read (rename π.to C)).after.unmet })
    (ap (λ r. r.shown) (face-rename π C))
    (ap (λ r. r.shown) (pairs-rename π C))
    ∙ ap₂
    (λ (s l : ℕ). record { face = (face_read C).shown; pairs = (pairs_read C).shown; stuck = s; loops = l; knot = tied_agents (pairs_read (rename π.to C)).after.unmet })
    (ap length (stuck-rename π C.eqs) ∙ length-rename π (stuck C.eqs))
    (loops-rename π C.eqs)
    ∙ ap
    (λ (k : ℕ). record { face = (face_read C).shown; pairs = (pairs_read C).shown; stuck = length (stuck C.eqs); loops = loops C.eqs; knot = k })
    (ap (λ r. tied_agents r.after.unmet) (pairs-rename π C) ∙ tied_agents-rename π (pairs_read C).after.unmet)
