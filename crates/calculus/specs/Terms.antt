-- Document 001, section 2.1: names, terms, equations and configurations; how often a name occurs; lists up to order
-- and sides; substitution.
use Rattle.std.specs.Prelude.{◌≡◌, List, [], ◌∷◌, ◌++◌, ℕ, ◌+◌, min}
use Rattle.std.proofs.Math.Decide.{ℕ_discrete}

-- Terms:  t ::= x | α(t₁, …, tₙ). A term is a name, or an agent: a symbol over a sequence of terms. Names and symbols
-- are numbers, kept apart by the constructors. Terms and sequences of terms are one family, so that a fact of both is
-- one induction.
pub data Sort : Type 0 where
  one many : Sort

pub data Tree : Sort → Type 0 where
  var : ℕ → Tree one
  node : ℕ → Tree many → Tree one
  nil : Tree many
  cons : Tree one → Tree many → Tree many

abbrev pub Term : Type 0
Term = Tree one

abbrev pub Terms : Type 0
Terms = Tree many

infix 50 ◌≐◌
-- Equations:  t = s.
pub data Eqn : Type 0 where
  ◌≐◌ : Term → Term → Eqn

-- Configurations:  ⟨ t̄ | Δ ⟩, the interface of a net and its equations.
pub record Conf : Type 0 where
  pub face : Terms
  pub eqs : List Eqn

-- The names of a term, in order, each as often as it occurs; and those of an equation, of equations and of a
-- configuration.
abbrev pub names : {s : Sort} → Tree s → List ℕ
names (var x) = x ∷ []
names (node a ts) = names ts
names nil = []
names (cons t ts) = names t ++ names ts

abbrev pub eqn_names : Eqn → List ℕ
eqn_names (t ≐ u) = names t ++ names u

abbrev pub eqs_names : List Eqn → List ℕ
eqs_names [] = []
eqs_names (e ∷ l) = eqn_names e ++ eqs_names l

abbrev pub all_names : Conf → List ℕ
all_names C = names C.face ++ eqs_names C.eqs

-- One if two names are equal, none else.
unfoldable pub δ : ℕ → ℕ → ℕ
δ x y = elim (ℕ_discrete x y) [ yes p ↦ 1 | no q ↦ 0 ]

-- The sum of a function over a list; so how often a name occurs in a list, and in a configuration.
abbrev pub sum : (ℕ → ℕ) → List ℕ → ℕ
sum f [] = 0
sum f (x ∷ l) = f x + sum f l

abbrev pub count : ℕ → List ℕ → ℕ
count x l = sum (δ x) l

abbrev pub occurs : ℕ → Conf → ℕ
occurs x C = count x (all_names C)

-- In how many of some equations a name is a side.
abbrev pub side : ℕ → Term → ℕ
side x (var y) = δ x y
side x (node a ts) = 0

abbrev pub touch : ℕ → Eqn → ℕ
touch x (t ≐ u) = min 1 (side x t + side x u)

abbrev pub touches : ℕ → List Eqn → ℕ
touches x [] = 0
touches x (e ∷ l) = touch x e + touches x l

-- `Perm R l m`: m is l with its members in some order, each replaced by one that is R to it.
pub data Perm {A : Type 0} (R : A → A → Type 0) : List A → List A → Type 0 where
  none : Perm R [] []
  keep : {a b : A} {l m : List A} → R a b → Perm R l m → Perm R (a ∷ l) (b ∷ m)
  swap : {a b : A} {l : List A} → Perm R (a ∷ b ∷ l) (b ∷ a ∷ l)
  step : {l m n : List A} → Perm R l m → Perm R m n → Perm R l n

-- Two lists are one up to order.
abbrev pub Reordered : {A : Type 0} → List A → List A → Type 0
Reordered {A} = Perm (◌≡◌ {A = A})

-- Two equations are one up to sides.
pub data Sides : Eqn → Eqn → Type 0 where
  same : {e : Eqn} → Sides e e
  turn : {t u : Term} → Sides (t ≐ u) (u ≐ t)

infix 40 ◌∼◌
-- Two lists of equations are one up to order and sides: Δ is a multiset, and t = s says what s = t says.
abbrev pub ◌∼◌ : List Eqn → List Eqn → Type 0
◌∼◌ = Perm Sides

-- Replace each name by a term, everywhere at once.
abbrev pub sub : {s : Sort} → (ℕ → Term) → Tree s → Tree s
sub σ (var x) = σ x
sub σ (node a ts) = node a (sub σ ts)
sub σ nil = nil
sub σ (cons t ts) = cons (sub σ t) (sub σ ts)

abbrev pub sub_eqn : (ℕ → Term) → Eqn → Eqn
sub_eqn σ (t ≐ u) = sub σ t ≐ sub σ u

-- The sequence of the terms that stand for some names.
abbrev pub terms : (ℕ → Term) → List ℕ → Terms
terms σ [] = nil
terms σ (x ∷ xs) = cons (σ x) (terms σ xs)

-- A function of the names, as a substitution.
abbrev pub ren : (ℕ → ℕ) → ℕ → Term
ren f x = var (f x)

-- Either of two things, by whether two names are equal.
unfoldable pub if_eq : {A : Type 0} → ℕ → ℕ → A → A → A
if_eq x y a b = elim (ℕ_discrete x y) [ yes p ↦ a | no q ↦ b ]

infix 60 ◌⟦◌/◌⟧
-- u[t/x]:  u with t for the name x, every other name left.
abbrev pub ◌⟦◌/◌⟧ : {s : Sort} → Tree s → Term → ℕ → Tree s
u ⟦ t / x ⟧ = sub (λ y. if_eq y x t (var y)) u
