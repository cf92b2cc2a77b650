-- What comes of two equations x = y.
use Rattle.std.specs.Prelude.{◌≡◌, refl, List, [], ◌∷◌, ℕ, length}
use Rattle.std.proofs.Common.{sym, ◌∙◌, ap₂, inl, inr, arith}
use Rattle.calculus.specs.Terms.{var, Terms, Eqn, ◌≐◌, Conf, step, Sides, ◌∼◌}
use Rattle.calculus.specs.Calculus.{Communication}
use Rattle.calculus.proofs.Beneath.Perm.{perm_length}
use Rattle.calculus.proofs.Beneath.Sub.{Sides_equivalence, Matched, sides_inv, ≈of}
use Rattle.calculus.proofs.Beneath.Ended.{All, All-∼}

pub loop_left : {ts : Terms} {x y : ℕ} {D : Conf}
    → Communication (record { face = ts; eqs = (var x ≐ var y) ∷ (var x ≐ var y) ∷ [] }) D
    → (z : ℕ) × (D.eqs ∼ (var z ≐ var z) ∷ [])
loop_left {ts} {x} {y} {D} c = (loops.0, step c.after (≈of (ap₂ ◌∷◌ loops.1 (empty c.Δ rest))))
  where
    rest : length c.Δ ≡ 0
    rest = omega (arith, perm_length c.before)

    empty : (l : List Eqn) → length l ≡ 0 → l ≡ []
    empty [] e = refl
    empty (d ∷ l) e = absurd (omega arith)

    alike : All (λ e. Sides (var x ≐ var y) e) ((var c.x ≐ c.t) ∷ (var c.x ≐ c.u) ∷ c.Δ)
    alike = All-∼ (λ d e s h. Sides_equivalence.join h s) c.before (Sides.same, (Sides.same, tt))

    go : Matched (var x) (var y) (var c.x) c.t → Matched (var x) (var y) (var c.x) c.u
        → (z : ℕ) × ((c.t ≐ c.u) ≡ (var z ≐ var z))
    go (inl e) (inl f) = (y, ap₂ ◌≐◌ (sym e.1) (sym f.1))
    go (inl e) (inr f) = (y, ap₂ ◌≐◌ (sym e.1) (sym f.0 ∙ e.0 ∙ sym f.1))
    go (inr e) (inl f) = (y, ap₂ ◌≐◌ (sym e.0 ∙ f.0 ∙ sym e.1) (sym f.1))
    go (inr e) (inr f) = (x, ap₂ ◌≐◌ (sym e.0) (sym f.0))

    loops : (z : ℕ) × ((c.t ≐ c.u) ≡ (var z ≐ var z))
    loops = go (sides_inv alike.0) (sides_inv alike.1.0)
