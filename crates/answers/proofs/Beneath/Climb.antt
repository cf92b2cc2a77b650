-- Ties of which each hangs on one of them are on circles or behind them.
use Rattle.std.specs.Prelude.{◌≡◌, refl, List, [], ◌∷◌, ◌⊎◌, ℕ, zero, suc, ◌+◌, ◌≤◌, ◌<◌, length}
use Rattle.std.proofs.Common.{sym, ap, subst, inl, inr, arith}
use Rattle.std.proofs.Math.Decide.{ℕ_discrete}
use Rattle.calculus.specs.Terms.{Eqn, eqs_names, δ, count}
use Rattle.calculus.proofs.Beneath.Count.{δ_other}
use Rattle.calculus.proofs.Beneath.Ended.{touch-count}
use Rattle.answers.specs.Knots.{Tied, Hangs, Up, here, more, Behind}
use Rattle.answers.proofs.Beneath.Ties.{tied_touched}

-- On the way up the names not yet met get fewer, so that one is met again.
module _
    (l : List Eqn)
    (Left : ℕ → Type 0)
    (tied : (x : ℕ) → Left x → Tied l x)
    (up : (x : ℕ) → Left x → (y : ℕ) × (Hangs l x y × Left y))
  where
    up_one : {x y z : ℕ} → Up l x y → Hangs l y z → Up l x z
    up_one here h = more h here
    up_one (more g p) h = more g (up_one p h)

    abbrev Without : ℕ → List ℕ → Type 0
    Without y r = (s : List ℕ) × ((length r ≡ suc (length s)) × ((z : ℕ) → count z r ≡ δ z y + count z s))

    without : (y : ℕ) (r : List ℕ) → 0 < count y r → Without y r
    without y [] k = absurd (omega (arith, k))
    without y (a ∷ r) k = go (ℕ_discrete y a) (λ j. without y r j)
      where
        go : Dec (y ≡ a) → (0 < count y r → Without y r) → Without y (a ∷ r)
        go (yes e) d = (r, (refl, λ z. omega (arith, ap (δ z) e)))
        go (no e) d =
            let q = d (omega (arith, k, δ_other e)) in
            (a ∷ q.0, (omega (arith, q.1.0), λ z. omega (arith, q.1.1 z)))

    -- Of the names of ties left, those not in r were met on the way up to c.
    abbrev Met : List ℕ → ℕ → Type 0
    Met r c = (z : ℕ) → Left z → (0 < count z r) ⊎ Up l z c

    climb_one : (r : List ℕ) (x c : ℕ) → Left c → Up l x c → Met r c
        → ((s : List ℕ) → length r ≡ suc (length s) → (y : ℕ) → Left y → Up l x y → Met s y → Behind l x)
        → Behind l x
    climb_one r x c k w f next = go (f y j)
      where
        y : ℕ
        y = (up c k).0

        h : Hangs l c y
        h = (up c k).1.0

        j : Left y
        j = (up c k).1.1

        go : (0 < count y r) ⊎ Up l y c → Behind l x
        go (inr v) = record { top = c; way = w; circle = record { above = y; hangs = h; round = v } }
        go (inl m) = next q.0 q.1.0 y j (up_one w h) (λ z i. still z (ℕ_discrete z y) (f z i))
          where
            q : Without y r
            q = without y r m

            still : (z : ℕ) → Dec (z ≡ y) → (0 < count z r) ⊎ Up l z c → (0 < count z q.0) ⊎ Up l z y
            still z d (inr v) = inr (up_one v h)
            still z (yes e) (inl n) = inr (subst (λ u. Up l u y) (sym e) here)
            still z (no e) (inl n) = inl (omega (arith, n, q.1.1 z, δ_other e))

    climb : (n : ℕ) (r : List ℕ) → length r ≤ n → (x c : ℕ) → Left c → Up l x c → Met r c → Behind l x
    climb zero r b x c k w f = climb_one r x c k w f (λ s e y j v g. absurd (omega (arith, b, e)))
    climb (suc n) r b x c k w f = climb_one r x c k w f (λ s e y j v g. climb n s (omega (arith, b, e)) x y j v g)

    pub all_behind : (x : ℕ) → Left x → Behind l x
    all_behind x k =
        climb
        (length (eqs_names l))
        (eqs_names l)
        (omega arith)
        x
        x
        k
        here
        (λ z j. inl (omega (arith, tied_touched (tied z j), touch-count z l)))
