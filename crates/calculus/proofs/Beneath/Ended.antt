-- Where neither Communication nor Interaction applies: no name is a side of two equations, and no equation has a rule.
use Rattle.std.specs.Prelude.{◌≡◌, refl, List, [], ◌∷◌, ◌++◌, ℕ, ◌+◌, ◌≤◌}
use Rattle.std.proofs.Common.{◌∙◌, arith}
use Rattle.calculus.specs.Terms.{var, node, Term, Terms, Eqn, ◌≐◌, Conf, names, eqs_names, δ}
use Rattle.calculus.specs.Terms.{count, side, touch, touches, none, keep, swap, step, Sides, ◌∼◌}
use Rattle.calculus.specs.Calculus.{Rule, Book, Step, communication, interaction}
use Rattle.calculus.specs.Descent.{Normal}
use Rattle.calculus.proofs.Beneath.Sub.{Sides_equivalence}
use Rattle.calculus.proofs.Beneath.Count.{δ_same, sum-eqn}

abbrev pub All : {A : Type 0} → (A → Type 0) → List A → Type 0
All P [] = Unit {0}
All P (e ∷ l) = P e × All P l

-- An equation between two agents; and one that no rule of the book takes.
abbrev pub Cells : Eqn → Type 0
Cells (var x ≐ u) = ⊥
Cells (node a ts ≐ var y) = ⊥
Cells (node a ts ≐ node b us) = Unit {0}

abbrev pub Idle : Book → Eqn → Type 0
Idle B e = (i : ℕ) (r : Rule) → B i r → (ts us : Terms) → Sides e (node r.left ts ≐ node r.right us) → ⊥

pub touches-∼ : (x : ℕ) {l m : List Eqn} → l ∼ m → touches x l ≡ touches x m
touches-∼ x none = refl
touches-∼ x (keep e p) = omega (arith, sides e, touches-∼ x p)
  where
    sides : {d e : Eqn} → Sides d e → touch x d ≡ touch x e
    sides Sides.same = refl
    sides (Sides.turn {t = t} {u = u}) = omega arith
touches-∼ x swap = omega arith
touches-∼ x (step p q) = touches-∼ x p ∙ touches-∼ x q

pub touches-append : (x : ℕ) (l m : List Eqn) → touches x (l ++ m) ≡ touches x l + touches x m
touches-append x [] m = omega arith
touches-append x (e ∷ l) m = omega (arith, touches-append x l m)

-- A side that is a name is an occurrence.
pub touch-count : (x : ℕ) (l : List Eqn) → touches x l ≤ count x (eqs_names l)
touch-count x [] = omega arith
touch-count x ((t ≐ u) ∷ l) = omega (arith, side-count t, side-count u, touch-count x l, sum-eqn (δ x) t u l)
  where
    side-count : (t : Term) → side x t ≤ count x (names t)
    side-count (var y) = omega arith
    side-count (node a ts) = omega arith

pub All-∼ : {P : Eqn → Type 0} → ((d e : Eqn) → Sides d e → P d → P e) → {l m : List Eqn} → l ∼ m → All P l → All P m
All-∼ f none h = tt
All-∼ f (keep e p) h = (f _ _ e h.0, All-∼ f p h.1)
All-∼ f swap h = (h.1.0, (h.0, h.1.1))
All-∼ f (step p q) h = All-∼ f q (All-∼ f p h)

pub All-append : {A : Type 0} (P : A → Type 0) (l m : List A) → All P l → All P m → All P (l ++ m)
All-append P [] m h k = k
All-append P (e ∷ l) m h k = (h.0, All-append P l m h.1 k)

pub All-map : {A : Type 0} {P Q : A → Type 0} → ((e : A) → P e → Q e) → (l : List A) → All P l → All Q l
All-map f [] h = tt
All-map f (e ∷ l) h = (f e h.0, All-map f l h.1)

-- What has a name for a side, no rule takes.
pub named_idle : (B : Book) (e : Eqn) → (Cells e → ⊥) → Idle B e
named_idle B e h i r b ts us s = h (cells (Sides_equivalence.back s))
  where
    cells : {f : Eqn} → Sides (node r.left ts ≐ node r.right us) f → Cells f
    cells Sides.same = tt
    cells Sides.turn = tt

-- Where each name is a side of one equation at most, and no equation has a rule, the configuration is at an end.
pub ended_normal : {B : Book} {C : Conf} → ((x : ℕ) → touches x C.eqs ≤ 1) → All (Idle B) C.eqs
    → Normal (Step B) C
ended_normal once idle l D (communication c) = omega (arith, once c.x, touches-∼ c.x c.before, δ_same c.x)
ended_normal {B} once idle l D (interaction {i = i} {r = r} b c) = (All-∼ turn c.before idle).0 i r b _ _ Sides.same
  where
    turn : (d e : Eqn) → Sides d e → Idle B d → Idle B e
    turn d e s p i r b ts us q = p i r b ts us (Sides_equivalence.join s q)
