-- The first of some tests that holds; and answers that agree with it.
use Rattle.std.specs.Prelude.{ℕ, zero, suc, ◌+◌, ◌<◌, ◌≤◌, ◌≡◌, refl, Bool, ◌↔◌, List, [], ◌∷◌, get_or}
use Rattle.std.proofs.Common.{sym, ap, ◌∙◌, arith}
use Rattle.std.proofs.Math.Bool.{true, false}
use Rattle.std.proofs.Math.Option.{none, some}
use Rattle.texts.specs.Answers.{OfLine, fine, fault, need, refuse}
use Rattle.texts.proofs.Beneath.Tools.{never, never'}
use Rattle.texts.proofs.Beneath.Stops.{First}

first_zero : (ts : List Bool) → First (true ∷ ts) 0
first_zero ts = record { holds = refl; least = λ m h. absurd (omega arith) }

first_suc : (ts : List Bool) (n : ℕ) → First ts n → First (false ∷ ts) (suc n)
first_suc ts n f = record { holds = f.holds; least = below }
  where
    below : (m : ℕ) → m < suc n → get_or (false ∷ ts) m false ≡ false
    below zero h = refl
    below (suc m) h = f.least m (omega arith)

suc_first : (ts : List Bool) (n : ℕ) → First (false ∷ ts) (suc n) → First ts n
suc_first ts n f = record { holds = f.holds; least = λ m h. f.least (suc m) (omega arith) }

-- The answer r is a fault n just where the n-th test is the first to hold, counted from k.
pub record Agrees {A : Type 0} (k : ℕ) (r : OfLine A) (ts : List Bool) : Type 0 where
  pub says : (n : ℕ) → r ≡ fault n → (m : ℕ) × (n ≡ k + m) × First ts m
  pub said : (m : ℕ) → First ts m → r ≡ fault (k + m)

no_fault : {A B : Type 0} {a : A} {n : ℕ} → ◌≡◌ {A = OfLine A} (fine a) (fault n) → B
no_fault e = absurd (let z : ◌≡◌ {A = ℕ} 0 1 = cc in omega arith)

module _ {A : Type 0} {k : ℕ} where
  pub agrees_fine : (a : A) → Agrees k (fine a) []
  agrees_fine a = record { says = λ n e. no_fault e; said = λ m f. never f.holds }

  agrees_hit : (ts : List Bool) → Agrees {A = A} k (fault k) (true ∷ ts)
  agrees_hit ts = record { says = λ n e. (0, (let z : k ≡ n = cc in omega arith), first_zero ts); said = only }
    where
      only : (m : ℕ) → First (true ∷ ts) m → ◌≡◌ {A = OfLine A} (fault k) (fault (k + m))
      only zero f = let z : k + 0 ≡ k = omega arith in rw z
      only (suc m) f = never' (f.least 0 (omega arith))

  pub agrees_skip : (r : OfLine A) (ts : List Bool) → Agrees (suc k) r ts → Agrees k r (false ∷ ts)
  agrees_skip r ts g = record { says = λ n e. let p = g.says n e in (suc p.0, omega (arith, p.1), first_suc ts p.0 p.2); said = later }
    where
      later : (m : ℕ) → First (false ∷ ts) m → r ≡ fault (k + m)
      later zero f = never f.holds
      later (suc m) f = let z : k + suc m ≡ suc k + m = omega arith in rw z (g.said m (suc_first ts m f))

  pub agrees_refuse : (t : Bool) (r : OfLine A) (ts : List Bool) → Agrees (suc k) r ts → Agrees k (refuse k t r) (t ∷ ts)
  unfolding refuse
  agrees_refuse true r ts g = agrees_hit ts
  agrees_refuse false r ts g = agrees_skip r ts g

  pub agrees_none : {B : Type 0} (f : B → OfLine A) (ts : List Bool) → Agrees k (need k none f) (true ∷ ts)
  unfolding need
  agrees_none f ts = agrees_hit ts

  pub agrees_some : {B : Type 0} (f : B → OfLine A) (b : B) (ts : List Bool) → Agrees (suc k) (f b) ts → Agrees k (need k (some b) f) (false ∷ ts)
  unfolding need
  agrees_some f b ts g = agrees_skip (f b) ts g

-- The least number of some conditions is that of the first test to hold, where a test gives its condition, and a condition its
-- test or one before it.
abbrev pub Least : (ℕ → Type 0) → ℕ → Type 0
Least W n = W n × ((m : ℕ) → m < n → ¬ W m)

pub first_exact : (ts : List Bool) (W : ℕ → Type 0) → ((m : ℕ) → get_or ts m false ≡ true → W m)
    → ((m : ℕ) → W m → (k : ℕ) × (k ≤ m) × (get_or ts k false ≡ true))
    → (n : ℕ) → First ts n ↔ Least W n
first_exact ts W gives given n = (to, from)
  where
    to : First ts n → Least W n
    to f = (gives n f.holds, λ m h w. let p = given m w in never (sym (f.least p.0 (omega (arith, p.1))) ∙ p.2))

    from : Least W n → First ts n
    from (w, none-lower) = record { holds = here (get_or ts n false) refl; least = λ m h. below m h (get_or ts m false) refl }
      where
        below : (m : ℕ) → m < n → (t : Bool) → get_or ts m false ≡ t → t ≡ false
        below m h true e = absurd (none-lower m h (gives m e))
        below m h false e = refl

        here : (t : Bool) → get_or ts n false ≡ t → t ≡ true
        here true e = refl
        here false e =
            let p = given n w in
            let z : ¬ (p.0 ≡ n) = λ q. never (sym e ∙ (ap (λ i. get_or ts i false) (sym q) ∙ p.2)) in
            absurd (none-lower p.0 (omega (arith, p.1)) (gives p.0 p.2))

pub agrees_first : {A : Type 0} (r : OfLine A) (ts : List Bool) → Agrees 0 r ts → (n : ℕ) → (r ≡ fault n) ↔ First ts n
agrees_first r ts g n = (
  λ e. let p = g.says n e in let z : p.0 ≡ n = omega (arith, p.1) in rw z at p.2,
  λ f. let z : 0 + n ≡ n = omega arith in rw z at (g.said n f),
)
