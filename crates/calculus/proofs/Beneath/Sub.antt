-- Equations up to sides and order, and what a substitution does to them.
use Rattle.std.specs.Prelude.{◌≡◌, refl, List, [], ◌∷◌, map, ◌⊎◌, ℕ}
use Rattle.std.proofs.Common.{ap, ap₂, inl, inr}
use Rattle.calculus.specs.Terms.{Sort, Tree, var, node, nil, cons, Term, Terms, Eqn}
use Rattle.calculus.specs.Terms.{◌≐◌, Sides, ◌∼◌, sub, sub_eqn, terms}
use Rattle.calculus.proofs.Beneath.Diamond.{Equivalence}
use Rattle.calculus.proofs.Beneath.Perm.{perm_refl, perm_sym, perm_of_eq, perm_cons, perm_map, perm_heads, Moved}

pub Sides_equivalence : Equivalence Sides
Sides_equivalence = record { same = λ e. Sides.same; back = back; join = join }
  where
    back : {e f : Eqn} → Sides e f → Sides f e
    back Sides.same = Sides.same
    back Sides.turn = Sides.turn

    join : {e f g : Eqn} → Sides e f → Sides f g → Sides e g
    join Sides.same q = q
    join Sides.turn Sides.same = Sides.turn
    join Sides.turn Sides.turn = Sides.same

-- What equations alike say of their sides.
abbrev pub Matched : Term → Term → Term → Term → Type 0
Matched t u s r = ((t ≡ s) × (u ≡ r)) ⊎ ((t ≡ r) × (u ≡ s))

pub sides_inv : {t u s r : Term} → Sides (t ≐ u) (s ≐ r) → Matched t u s r
sides_inv Sides.same = inl (refl, refl)
sides_inv Sides.turn = inr (refl, refl)

-- The parts of a term.
abbrev pub name_of : Term → ℕ
name_of (var x) = x
name_of (node a ts) = 0

abbrev pub symbol : Term → ℕ
symbol (var x) = 0
symbol (node a ts) = a

abbrev pub arguments : Term → Terms
arguments (var x) = nil
arguments (node a ts) = ts

pub var_inj : {x y : ℕ} → ◌≡◌ {A = Term} (var x) (var y) → x ≡ y
var_inj e = ap name_of e

-- Lists of equations up to order and sides, with short names for what is done to them.
pub ≈of : {l m : List Eqn} → l ≡ m → l ∼ m
≈of e = perm_of_eq Sides_equivalence e

pub back : {l m : List Eqn} → l ∼ m → m ∼ l
back p = perm_sym Sides_equivalence p

pub on : (e : Eqn) {l m : List Eqn} → l ∼ m → e ∷ l ∼ e ∷ m
on e p = perm_cons Sides_equivalence e p

pub whole : (l : List Eqn) → l ∼ l
whole l = perm_refl Sides_equivalence l

pub heads : {a b : Eqn} {l m : List Eqn} → a ∷ l ∼ b ∷ m → (Sides a b × (l ∼ m)) ⊎ Moved Sides a b l m
heads p = perm_heads Sides_equivalence p

pub sub-∼ : (σ : ℕ → Term) {l m : List Eqn} → l ∼ m → map (sub_eqn σ) l ∼ map (sub_eqn σ) m
sub-∼ σ p = perm_map (sub_eqn σ) sides p
  where
    sides : (d e : Eqn) → Sides d e → Sides (sub_eqn σ d) (sub_eqn σ e)
    sides d e Sides.same = Sides.same
    sides d e Sides.turn = Sides.turn

-- Each name for itself, and one substitution after another.
pub sub-var : {s : Sort} (t : Tree s) → sub var t ≡ t
sub-var (var x) = refl
sub-var (node a ts) = ap (node a) (sub-var ts)
sub-var nil = refl
sub-var (cons t ts) = ap₂ cons (sub-var t) (sub-var ts)

pub sub-sub : {s : Sort} (σ τ : ℕ → Term) (t : Tree s) → sub σ (sub τ t) ≡ sub (λ x. sub σ (τ x)) t
sub-sub σ τ (var x) = refl
sub-sub σ τ (node a ts) = ap (node a) (sub-sub σ τ ts)
sub-sub σ τ nil = refl
sub-sub σ τ (cons t ts) = ap₂ cons (sub-sub σ τ t) (sub-sub σ τ ts)

pub sub-eqs-var : (l : List Eqn) → map (sub_eqn var) l ≡ l
sub-eqs-var [] = refl
sub-eqs-var ((t ≐ u) ∷ l) = ap₂ ◌∷◌ (ap₂ ◌≐◌ (sub-var t) (sub-var u)) (sub-eqs-var l)

pub sub-eqs-sub : (σ τ : ℕ → Term) (l : List Eqn)
    → map (sub_eqn σ) (map (sub_eqn τ) l) ≡ map (sub_eqn (λ x. sub σ (τ x))) l
sub-eqs-sub σ τ [] = refl
sub-eqs-sub σ τ ((t ≐ u) ∷ l) = ap₂ ◌∷◌ (ap₂ ◌≐◌ (sub-sub σ τ t) (sub-sub σ τ u)) (sub-eqs-sub σ τ l)

pub sub-terms : (σ τ : ℕ → Term) (xs : List ℕ) → sub σ (terms τ xs) ≡ terms (λ x. sub σ (τ x)) xs
sub-terms σ τ [] = refl
sub-terms σ τ (x ∷ xs) = ap (cons (sub σ (τ x))) (sub-terms σ τ xs)

pub terms-map : (σ : ℕ → Term) (f : ℕ → ℕ) (xs : List ℕ) → terms (λ z. σ (f z)) xs ≡ terms σ (map f xs)
terms-map σ f [] = refl
terms-map σ f (x ∷ xs) = ap (cons (σ (f x))) (terms-map σ f xs)
