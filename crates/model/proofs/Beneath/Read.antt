-- Some steps of the calculus with an equal net at their end; and the names of loops.
use Rattle.std.specs.Prelude.{◌≡◌, refl, List, [], ◌∷◌, ◌++◌, ◌⊎◌, ℕ, ◌+◌, ◌≤◌, ◌<◌}
use Rattle.std.proofs.Common.{sym, ap, ap₂, inl, inr, arith}
use Rattle.std.proofs.Math.Decide.{dec_lt}
use Rattle.calculus.specs.Calculus.{Book, Label, Step, Valid}
use Rattle.calculus.specs.Descent.{Steps, done}
use Rattle.calculus.specs.Nets.{◌≈◌}
use Rattle.calculus.proofs.Beneath.Count.{δ_same, δ_other, δ-cases, sum-append, sum-eqs, sum-eqs-append, sub-fixed}
use Rattle.calculus.proofs.Beneath.Count.{sub-eqs-fixed}
use Rattle.calculus.proofs.Beneath.Rename.{≈_trans, ≈-alike, exchange, exchanging, exchange_left, exchange_other}
use Rattle.calculus.proofs.Beneath.Sub.{sub-∼, ≈of, back}
use Rattle.calculus.specs.Terms.{δ, count, occurs, step, ren, var, Term, Eqn, ◌≐◌, Conf, ◌∼◌, names, eqs_names}
use Rattle.model.specs.Reading.{circles}

pub record Read (B : Book) (C : Conf) (M : List Label) (C' : Conf) : Type 0 where
  pub state : Conf
  pub way : Steps (Step B) C M state
  pub equal : state ≈ C'

abbrev with_eqs : Conf → List Eqn → Conf
with_eqs C l = record { face = C.face; eqs = l }

-- The name of an equation x = x may be any other that does not occur.
reloop : {C : Conf} {x n : ℕ} {l : List Eqn} → Valid C → C.eqs ∼ (var x ≐ var x) ∷ l → occurs n C ≡ 0
    → C ≈ with_eqs C ((var n ≐ var n) ∷ l)
reloop {C} {x} {n} {l} v p z =
    record {
      names_by = exchanging x n;
      face = sub-fixed σ C.face (λ y k. ap var (fixes y (omega arith)));
      eqs =
          step
          (sub-∼ σ p)
          (≈of (ap₂ ◌∷◌ (ap (λ y. var y ≐ var y) (exchange_left x n)) (sub-eqs-fixed σ l (λ y k. ap var (fixes y (omega arith))))));
      free = λ y k. exchange_other (λ e. omega (arith, k, parts y, δ_same y, ap (δ y) e)) (λ e. omega (arith, k, z, ap (λ w. occurs w C) e));
    }
  where
    σ : ℕ → Term
    σ = ren (exchange x n)

    parts : (y : ℕ) → occurs y C ≡ count y (names C.face) + (δ y x + (δ y x + count y (eqs_names l)))
    parts y = omega (arith, sum-append (δ y) (names C.face) (eqs_names C.eqs), sum-eqs (δ y) p)

    fixes : (y : ℕ) → 0 < count y (names C.face) + count y (eqs_names l) → exchange x n y ≡ y
    fixes y k =
        exchange_other
        (λ e. omega (arith, k, v y, parts y, δ_same y, ap (δ y) e))
        (λ e. omega (arith, k, z, parts y, ap (λ w. occurs w C) e))

-- x = x taken out and a loop counted: no change.
pub closes : {B : Book} {C C' : Conf} {x n : ℕ} {l : List Eqn} → Valid C → C.eqs ∼ (var x ≐ var x) ∷ l
    → occurs n C ≡ 0
    → C'.face ≡ C.face → C'.eqs ∼ (var n ≐ var n) ∷ l → Read B C [] C'
closes {C = C} v p z e q = record { state = C; way = done; equal = ≈_trans (reloop v p z) (≈-alike (sym e) (back q)) }

circle-names : (range n x : ℕ) → range + n ≤ x → count x (eqs_names (circles range n)) ≡ 0
circle-names range ℕ.zero x h = refl
circle-names range (ℕ.suc n) x h = omega (arith, circle-names range n x (omega arith), δ_other {x = x} {y = range + n} (λ e. omega arith))

below-circles : (range n x : ℕ) → x < range → count x (eqs_names (circles range n)) ≡ 0
below-circles range ℕ.zero x h = refl
below-circles range (ℕ.suc n) x h = omega (arith, below-circles range n x h, δ_other {x = x} {y = range + n} (λ e. omega arith))

-- A net with n loops, its own names below `range`: how often a name occurs in it.
abbrev pub looping : Conf → ℕ → ℕ → Conf
looping C range n = with_eqs C (C.eqs ++ circles range n)

abbrev pub InRange : ℕ → Conf → Type 0
InRange range C = (x : ℕ) → range ≤ x → occurs x C ≡ 0

occurs-looping : (C : Conf) (range n x : ℕ)
    → occurs x (looping C range n) ≡ occurs x C + count x (eqs_names (circles range n))
occurs-looping C range n x =
    omega (
      arith,
      sum-append (δ x) (names C.face) (eqs_names (C.eqs ++ circles range n)),
      sum-append (δ x) (names C.face) (eqs_names C.eqs),
      sum-eqs-append (δ x) C.eqs (circles range n),
    )

pub occurs-below : (C : Conf) (range n x : ℕ) → x < range → occurs x (looping C range n) ≡ occurs x C
occurs-below C range n x h = omega (arith, occurs-looping C range n x, below-circles range n x h)

-- The name for the next loop does not occur.
pub next-loop : (C : Conf) (range n : ℕ) → InRange range C → occurs (range + n) (looping C range n) ≡ 0
next-loop C range n h =
    omega (arith, occurs-looping C range n (range + n), h (range + n) (omega arith), circle-names range n (range + n) (omega arith))

-- Where each name of the net occurs twice, so does each name with the loops.
pub looping-closed : (C : Conf) (range n : ℕ) → InRange range C → ((x : ℕ) → (occurs x C ≡ 0) ⊎ (occurs x C ≡ 2))
    → (x : ℕ)
    → (occurs x (looping C range n) ≡ 0) ⊎ (occurs x (looping C range n) ≡ 2)
looping-closed C range n h d x = go (dec_lt x range) (d x) (circle-twice n)
  where
    circle-twice : (n : ℕ) → (count x (eqs_names (circles range n)) ≡ 0) ⊎ (count x (eqs_names (circles range n)) ≡ 2)
    circle-twice ℕ.zero = inl refl
    circle-twice (ℕ.suc n) = again (δ-cases x (range + n)) (circle-twice n)
      where
        again : ((x ≡ range + n) × (δ x (range + n) ≡ 1)) ⊎ ((¬ (x ≡ range + n)) × (δ x (range + n) ≡ 0))
            → (count x (eqs_names (circles range n)) ≡ 0) ⊎ (count x (eqs_names (circles range n)) ≡ 2)
            → (δ x (range + n) + (δ x (range + n) + count x (eqs_names (circles range n))) ≡ 0)
            ⊎ (δ x (range + n) + (δ x (range + n) + count x (eqs_names (circles range n))) ≡ 2)
        again (inl e) k = inr (omega (arith, e.1, circle-names range n x (omega (arith, e.0))))
        again (inr e) (inl k) = inl (omega (arith, e.1))
        again (inr e) (inr k) = inr (omega (arith, e.1))

    go : Dec (x < range) → (occurs x C ≡ 0) ⊎ (occurs x C ≡ 2)
        → (count x (eqs_names (circles range n)) ≡ 0) ⊎ (count x (eqs_names (circles range n)) ≡ 2)
        → (occurs x (looping C range n) ≡ 0) ⊎ (occurs x (looping C range n) ≡ 2)
    go (yes q) (inl k) j = inl (omega (arith, occurs-below C range n x q))
    go (yes q) (inr k) j = inr (omega (arith, occurs-below C range n x q))
    go (no q) k (inl j) = inl (omega (arith, occurs-looping C range n x, h x (omega arith)))
    go (no q) k (inr j) = inr (omega (arith, occurs-looping C range n x, h x (omega arith)))
