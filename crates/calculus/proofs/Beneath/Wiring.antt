-- Two Communications from one configuration meet.
use Rattle.std.specs.Prelude.{◌≡◌, List, ◌∷◌, ◌⊎◌, ℕ, ◌+◌, ◌<◌}
use Rattle.std.proofs.Common.{sym, ◌∙◌, ap, ap₂, inl, inr, arith}
use Rattle.calculus.specs.Terms.{var, Term, Eqn, ◌≐◌, Conf, names, eqs_names, δ, count}
use Rattle.calculus.specs.Terms.{occurs, keep, swap, step, Sides, ◌∼◌, sub, ren}
use Rattle.calculus.specs.Calculus.{Valid, Book, Communication, Com, Step, communication}
use Rattle.calculus.specs.Nets.{◌≈◌}
use Rattle.calculus.proofs.Beneath.Diamond.{Meet}
use Rattle.calculus.proofs.Beneath.Perm.{Two, two_alike, one_alike, none_alike, Paired, as_is}
use Rattle.calculus.proofs.Beneath.Perm.{left_turned, right_turned, both_turned, perm_two}
use Rattle.calculus.proofs.Beneath.Sub.{Sides_equivalence, Matched, sides_inv, var_inj}
use Rattle.calculus.proofs.Beneath.Sub.{≈of, back, on, whole, sub-∼}
use Rattle.calculus.proofs.Beneath.Count.{δ_same, sum-eqs, sub-fixed, sub-eqs-fixed}
use Rattle.calculus.proofs.Beneath.Rename.{≈-alike, ≈-equivalence, exchange, exchanging}
use Rattle.calculus.proofs.Beneath.Rename.{exchange_right, exchange_other}
use Rattle.calculus.proofs.Beneath.Occurs.{occurs_before, occurs-communication}
use Rattle.calculus.proofs.Beneath.Descent.{meet_at}

-- The two equations that a Communication takes.
abbrev pub eqn₁ : {C D : Conf} → Communication C D → Eqn
eqn₁ c = var c.x ≐ c.t

abbrev pub eqn₂ : {C D : Conf} → Communication C D → Eqn
eqn₂ c = var c.x ≐ c.u

-- The two equations in the other order.
pub flip : {C D : Conf} → Communication C D → Communication C D
flip c =
    record {
      x = c.x;
      t = c.u;
      u = c.t;
      Δ = c.Δ;
      before = step c.before swap;
      after = step c.after (keep Sides.turn (whole c.Δ));
      face = c.face;
    }

-- The Communication of x = t and x = u, wherever they stand.
pub communicate : {B : Book} {C D : Conf} (x : ℕ) (t u : Term) {Δ : List Eqn}
    → C.eqs ∼ (var x ≐ t) ∷ (var x ≐ u) ∷ Δ → D.eqs ∼ (t ≐ u) ∷ Δ → D.face ≡ C.face → Step B C Com D
communicate x t u {Δ} p q e = communication (record { x = x; t = t; u = u; Δ = Δ; before = p; after = q; face = e })

module _ {C D E : Conf} (v : Valid C) (c : Communication C D) (d : Communication C E) where
  -- Both equations in common. Where they are x = y twice, and one takes x and the other y, the results differ by an
  -- exchange of x and y.
  two_shared : Sides (eqn₁ c) (eqn₁ d) → Sides (eqn₂ c) (eqn₂ d) → c.Δ ∼ d.Δ → D ≈ E
  two_shared s s' p = go (sides_inv s) (sides_inv s')
    where
      plain : c.t ≡ d.t → c.u ≡ d.u → D ≈ E
      plain e f =
          ≈-alike
          (c.face ∙ sym d.face)
          (step c.after (step (≈of (ap₂ (λ t u. (t ≐ u) ∷ c.Δ) e f)) (step (on _ p) (back d.after))))

      X : ℕ
      X = c.x

      Y : ℕ
      Y = d.x

      σ : ℕ → Term
      σ = ren (exchange X Y)

      crossed : c.t ≡ var Y → c.u ≡ var Y → d.t ≡ var X → d.u ≡ var X → D ≈ E
      crossed tY uY tX uX =
          record {
            names_by = exchanging X Y;
            face = ap (sub σ) c.face ∙ sub-fixed σ C.face (λ x k. fixes x (omega arith)) ∙ sym d.face;
            eqs =
                step
                (sub-∼ σ (step c.after (≈of (ap₂ (λ t u. (t ≐ u) ∷ c.Δ) tY uY))))
                (step
                (≈of
                (ap₂
                ◌∷◌
                (ap (λ x. var x ≐ var x) (exchange_right X Y) ∙ ap₂ ◌≐◌ (sym tX) (sym uX))
                (sub-eqs-fixed σ c.Δ (λ x k. fixes x (omega arith)))))
                (step (on _ p) (back d.after)));
            free = λ x k. exchange_other
                (λ e. omega (arith, k, v x, occurs-communication c x, δ_same x, ap (δ x) e))
                (λ e. omega (arith, k, occurs-communication c x, twice x e));
          }
        where
          -- y is on the other side of both
          twice : (x : ℕ) → x ≡ Y
              → occurs x C ≡ count x (names C.face) + (δ x X + 1 + (δ x X + 1 + count x (eqs_names c.Δ)))
          twice x e =
              omega (
                arith,
                occurs_before c x,
                δ_same x,
                ap (δ x) e,
                ap (λ t. count x (names t)) tY,
                ap (λ t. count x (names t)) uY,
              )

          -- so neither name is elsewhere
          fixes : (x : ℕ) → 0 < count x (names C.face) + count x (eqs_names c.Δ) → σ x ≡ var x
          fixes x k =
              ap
              var
              (exchange_other
              (λ e. omega (arith, k, v x, occurs_before c x, δ_same x, ap (δ x) e))
              (λ e. omega (arith, k, v x, twice x e)))

      go : Matched (var X) c.t (var Y) d.t → Matched (var X) c.u (var Y) d.u → D ≈ E
      go (inl e) (inl f) = plain e.1 f.1
      go (inl e) (inr f) = plain e.1 (f.1 ∙ sym e.0 ∙ f.0)
      go (inr e) (inl f) = plain (e.1 ∙ sym f.0 ∙ e.0) f.1
      go (inr e) (inr f) = crossed e.1 f.1 (sym e.0) (sym f.0)

module _ {B : Book} {C D E : Conf} (v : Valid C) (c : Communication C D) (d : Communication C E) where
  -- One equation in common: it is x = y, with the other equations x = u and y = u'. Both ways lead to u = u'.
  one_shared : {Ω : List Eqn} → Sides (eqn₁ c) (eqn₁ d) → c.Δ ∼ eqn₂ d ∷ Ω → d.Δ ∼ eqn₂ c ∷ Ω
      → Meet ◌≈◌ (Step B) D Com E Com
  one_shared {Ω} s p q = elim (sides_inv s) [
    | inl e ↦ absurd
        (omega (
          arith,
          v c.x,
          occurs_before c c.x,
          δ_same c.x,
          ap (δ c.x) (var_inj e.0),
          sum-eqs (δ c.x) p,
        ))
    | inr e ↦ meet_at
        ≈-equivalence
        (record { face = C.face; eqs = (c.u ≐ d.u) ∷ Ω })
        (communicate
        d.x
        c.u
        d.u
        (step c.after (step (≈of (ap (λ w. (w ≐ c.u) ∷ c.Δ) e.1)) (on _ p)))
        (whole _)
        (sym c.face))
        (communicate
        c.x
        c.u
        d.u
        (step d.after (step (≈of (ap (λ w. (w ≐ d.u) ∷ d.Δ) (sym e.0))) (step (on _ q) swap)))
        (whole _)
        (sym d.face))
  ]

  -- No equation in common.
  none_shared : {Ω : List Eqn} → c.Δ ∼ eqn₁ d ∷ eqn₂ d ∷ Ω → d.Δ ∼ eqn₁ c ∷ eqn₂ c ∷ Ω
      → Meet ◌≈◌ (Step B) D Com E Com
  none_shared {Ω} p q =
      meet_at
      ≈-equivalence
      (record { face = C.face; eqs = (d.t ≐ d.u) ∷ (c.t ≐ c.u) ∷ Ω })
      (communicate d.x d.t d.u (step c.after (third p)) (whole _) (sym c.face))
      (communicate c.x c.t c.u (step d.after (third q)) swap (sym d.face))
    where
      -- the equation in front goes behind two others
      third : {e f g : Eqn} {l : List Eqn} → l ∼ f ∷ g ∷ Ω → e ∷ l ∼ f ∷ g ∷ e ∷ Ω
      third p = step (on _ p) (step swap (on _ swap))

  meet_two : Two Sides (eqn₁ c) (eqn₂ c) c.Δ (eqn₁ d) (eqn₂ d) d.Δ → (D ≈ E) ⊎ Meet ◌≈◌ (Step B) D Com E Com
  meet_two (two_alike s s' p) = inl (two_shared v c d s s' p)
  meet_two (one_alike s p q) = inr (one_shared s p q)
  meet_two (none_alike p q) = inr (none_shared p q)

pub communications-meet : {B : Book} {C D E : Conf} → Valid C → Communication C D → Communication C E
    → (D ≈ E) ⊎ Meet ◌≈◌ (Step B) D Com E Com
unfolding flip
communications-meet {B} {C} {D} {E} v c d = go (perm_two Sides_equivalence (step (back c.before) d.before))
  where
    go : Paired Sides (eqn₁ c) (eqn₂ c) c.Δ (eqn₁ d) (eqn₂ d) d.Δ → (D ≈ E) ⊎ Meet ◌≈◌ (Step B) D Com E Com
    go (as_is h) = meet_two v c d h
    go (left_turned h) = meet_two v (flip c) d h
    go (right_turned h) = meet_two v c (flip d) h
    go (both_turned h) = meet_two v (flip c) (flip d) h
