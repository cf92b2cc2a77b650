-- Following names meets their ties and what hangs on them, and no other tie.
use Rattle.std.specs.Prelude.{◌≡◌, refl, List, [], ◌∷◌, ◌++◌, ◌⊎◌, ℕ, zero, suc, ◌≤◌, ◌<◌, length}
use Rattle.std.proofs.Common.{sym, ◌∙◌, ap, subst, inl, inr, arith}
use Rattle.std.proofs.Math.Decide.{ℕ_discrete, dec_lt}
use Rattle.calculus.specs.Terms.{keep, swap, step, var, node, Term, Terms, Eqn, ◌≐◌, Sides, ◌∼◌, names, δ, count, touches}
use Rattle.calculus.proofs.Beneath.Perm.{perm_length}
use Rattle.calculus.proofs.Beneath.Sub.{back, on, whole}
use Rattle.calculus.proofs.Beneath.Count.{δ_same, δ_other, sum-append}
use Rattle.calculus.proofs.Beneath.Ended.{touches-∼}
use Rattle.answers.specs.Answer.{Pick, alone, beside, pick}
use Rattle.answers.specs.Knots.{Tied, Hangs}
use Rattle.answers.proofs.Beneath.Order.{PickIs, pick_is, rest-once, var-node}
use Rattle.answers.proofs.Beneath.Drain.{Once, went, drain_by, drain, drain_none, drain-alone, drain-tie, pick_first}
use Rattle.answers.proofs.Beneath.Drain.{beside-alike, is_name}
use Rattle.answers.proofs.Beneath.Knot.{drain-within}

-- A name is a side of one equation only.
pub tie_same : (x : ℕ) {l r s : List Eqn} {t u : Term} → Once l → l ∼ (var x ≐ t) ∷ r → l ∼ (var x ≐ u) ∷ s → t ≡ u
tie_same x {r = r} {s = s} {t = t} {u = u} o i j =
    (beside-alike x (step (back i) j) (λ z. omega (arith, o z, touches-∼ z i)) (pick_first x t r) (pick_first x u s)).0

-- A tie that comes first, and one that stays where another equation is taken out.
abbrev pub tied_head : (x b : ℕ) (us : Terms) (l : List Eqn) → Tied ((var x ≐ node b us) ∷ l) x
tied_head x b us l = record { symbol = b; args = us; others = l; equation = whole ((var x ≐ node b us) ∷ l) }

abbrev pub tied_turned : (x b : ℕ) (us : Terms) (l : List Eqn) → Tied ((node b us ≐ var x) ∷ l) x
tied_turned x b us l = record { symbol = b; args = us; others = l; equation = keep Sides.turn (whole l) }

pub tied_rest : (x : ℕ) (t : Term) {l r : List Eqn} {z : ℕ} → Once l → l ∼ (var x ≐ t) ∷ r → (h : Tied l z)
    → ¬ (z ≡ x) → (q : List Eqn) × (r ∼ (var z ≐ node h.symbol h.args) ∷ q)
tied_rest x t {l} {r} {z} o i h d = go (pick z r) (pick_is z r)
  where
    turned : t ≡ var z → l ∼ (var z ≐ var x) ∷ r
    turned e = step (subst (λ v. l ∼ (var x ≐ v) ∷ r) e i) (keep Sides.turn (whole r))

    z-side : touches z r ≡ 0 → t ≡ var z
    z-side k = is_name z t (omega (arith, k, touches-∼ z i, touches-∼ z h.equation, δ_same z, δ_other d))

    go : (p : Pick) → PickIs z r p → (q : List Eqn) × (r ∼ (var z ≐ node h.symbol h.args) ∷ q)
    go alone k = absurd (var-node (tie_same z o (turned (z-side k)) h.equation))
    go (beside u q) k =
        let e = tie_same z o (step i (step (on (var x ≐ t) k) swap)) h.equation in
        (q, subst (λ v. r ∼ (var z ≐ v) ∷ q) e k)

pub tied_more : {e : Eqn} {l r : List Eqn} {x : ℕ} → l ∼ e ∷ r → Tied r x → Tied l x
tied_more {e} i h =
    record {
      symbol = h.symbol;
      args = h.args;
      others = e ∷ h.others;
      equation = step i (step (on e h.equation) swap);
    }

pub hangs_more : {e : Eqn} {l r : List Eqn} {x y : ℕ} → l ∼ e ∷ r → Hangs r x y → Hangs l x y
unfolding tied_more
hangs_more i h = record { tie = tied_more i h.tie; inside = h.inside }

pub tied_touched : {l : List Eqn} {x : ℕ} → Tied l x → 0 < touches x l
tied_touched {x = x} h = omega (arith, touches-∼ x h.equation, δ_same x)

-- After some names are followed they are sides of nothing left; nor is a name that hangs on a tie that is gone.
pub record Settled (xs : List ℕ) (l m : List Eqn) : Type 0 where
  pub named : (z : ℕ) → 0 < count z xs → touches z m ≡ 0
  pub within : (x y : ℕ) → Hangs l x y → touches y m ≡ 0 → touches x m ≡ 0

abbrev Settles : ℕ → ℕ → Type 0
Settles n b = (xs : List ℕ) (l : List Eqn) → length l < b → length l ≤ n → Once l → Settled xs l (drain n xs l)

settles_more : (n b : ℕ) → Settles n b → (xs : List ℕ) (l : List Eqn) → length l ≤ b → length l ≤ n → Once l
    → Settled xs l (drain n xs l)
settles_more n b ih [] l a k o =
    subst
    (Settled [] l)
    (sym (drain_none n l))
    (record { named = λ z c. absurd (omega (arith, c)); within = λ x y h e. absurd (omega (arith, e, tied_touched h.tie)) })
settles_more n b ih (x ∷ xs) l a k o = go (pick x l) refl (pick_is x l) (settles_more n b ih xs l a k o)
  where
    go : (p : Pick) → pick x l ≡ p → PickIs x l p → Settled xs l (drain n xs l)
        → Settled (x ∷ xs) l (drain n (x ∷ xs) l)
    go alone e i d =
        subst
        (Settled (x ∷ xs) l)
        (sym (drain-alone n x xs l i))
        (record { named = λ z c. first z c (ℕ_discrete z x); within = d.within })
      where
        first : (z : ℕ) → 0 < count z (x ∷ xs) → Dec (z ≡ x) → touches z (drain n xs l) ≡ 0
        first z c (yes q) = omega (arith, (drain-within n xs l).1 z, ap (λ w. touches w l) q, i)
        first z c (no q) = d.named z (omega (arith, c, δ_other q))
    go (beside t r) e i d =
        subst
        (Settled (x ∷ xs) l)
        (sym (drain-tie n x xs l t r e k))
        (record {
          named = λ z c. first z c (ℕ_discrete z x);
          within = λ w y h f. second w y h f (ℕ_discrete y x);
        })
      where
        s : Settled (names t ++ xs) r (drain n (names t ++ xs) r)
        s =
            ih (names t ++ xs) r (omega (arith, a, perm_length i)) (omega (arith, k, perm_length i)) (rest-once i o)

        first : (z : ℕ) → 0 < count z (x ∷ xs) → Dec (z ≡ x) → touches z (drain n (names t ++ xs) r) ≡ 0
        first z c (yes q) =
            omega (
              arith,
              (drain-within n (names t ++ xs) r).1 z,
              ap (λ w. touches w r) q,
              o x,
              touches-∼ x i,
              δ_same x,
            )
        first z c (no q) = s.named z (omega (arith, c, δ_other q, sum-append (δ z) (names t) xs))

        second : (w y : ℕ) → Hangs l w y → touches y (drain n (names t ++ xs) r) ≡ 0 → Dec (y ≡ x)
            → touches w (drain n (names t ++ xs) r) ≡ 0
        second w y h f (yes q) =
            let j : l ∼ (var x ≐ node h.tie.symbol h.tie.args) ∷ h.tie.others =
            subst (λ v. l ∼ (var v ≐ node h.tie.symbol h.tie.args) ∷ h.tie.others) q h.tie.equation in
            s.named w (omega (
              arith,
              h.inside,
              ap (λ v. count w (names v)) (tie_same x o i j),
              sum-append (δ w) (names t) xs,
            ))
        second w y h f (no q) =
            let g = tied_rest x t o i h.tie q in
            s.within w y
            (record {
              tie = record { symbol = h.tie.symbol; args = h.tie.args; others = g.0; equation = g.1 };
              inside = h.inside;
            })
            f

settles : (n b : ℕ) → Settles n b
settles n zero xs l a k o = absurd (omega (arith, a))
settles n (suc b) xs l a k o = settles_more n b (settles n b) xs l (omega (arith, a)) k o

pub drain-settled : (n : ℕ) (xs : List ℕ) (l : List Eqn) → length l ≤ n → Once l → Settled xs l (drain n xs l)
drain-settled n xs l k o = settles n (suc n) xs l (omega (arith, k)) k o

-- What holds of the names followed, and of what hangs on that of which it holds, holds of each tie that is gone.
module _ (P : ℕ → Type 0) where
  abbrev Starts : List ℕ → List Eqn → Type 0
  Starts xs l = (z : ℕ) → 0 < count z xs → P z ⊎ (touches z l ≡ 0)

  abbrev Spreads : List Eqn → Type 0
  Spreads l = (x y : ℕ) → Hangs l x y → P y → P x

  abbrev Gone : List Eqn → List Eqn → Type 0
  Gone l m = (z : ℕ) → Tied l z → touches z m ≡ 0 → P z

  abbrev Reaches : ℕ → ℕ → Type 0
  Reaches n b =
      (xs : List ℕ) (l : List Eqn) → length l < b → length l ≤ n → Once l → Starts xs l → Spreads l
      → Gone l (drain n xs l)

  reaches_more : (n b : ℕ) → Reaches n b → (xs : List ℕ) (l : List Eqn) → length l ≤ b → length l ≤ n → Once l
      → Starts xs l → Spreads l
      → Gone l (drain n xs l)
  reaches_more n b ih [] l a k o f g =
      λ z h e. absurd (omega (arith, e, ap (touches z) (drain_none n l), tied_touched h))
  reaches_more n b ih (x ∷ xs) l a k o f g =
      go (pick x l) refl (pick_is x l) (reaches_more n b ih xs l a k o (λ z c. f z (omega (arith, c))) g)
    where
      go : (p : Pick) → pick x l ≡ p → PickIs x l p → Gone l (drain n xs l) → Gone l (drain n (x ∷ xs) l)
      go alone e i d z h q = d z h (ap (touches z) (sym (drain-alone n x xs l i)) ∙ q)
      go (beside t r) e i d z h q = here (ℕ_discrete z x)
        where
          x-holds : P x
          x-holds = one_of (f x (omega (arith, δ_same x)))
            where
              one_of : P x ⊎ (touches x l ≡ 0) → P x
              one_of (inl p) = p
              one_of (inr j) = absurd (omega (arith, j, touches-∼ x i, δ_same x))

          inside : (w : ℕ) (u : Term) → t ≡ u → 0 < count w (names u) → P w ⊎ (touches w r ≡ 0)
          inside w (var y) c m = same (ℕ_discrete w y)
            where
              j : l ∼ (var x ≐ var y) ∷ r
              j = subst (λ v. l ∼ (var x ≐ v) ∷ r) c i

              same : Dec (w ≡ y) → P w ⊎ (touches w r ≡ 0)
              same (yes v) =
                  inr (ap (λ u. touches u r) v ∙ omega (arith, o y, touches-∼ y j, δ_same y))
              same (no v) = absurd (omega (arith, m, δ_other v))
          inside w (node b us) c m =
              let j : l ∼ (var x ≐ node b us) ∷ r = subst (λ v. l ∼ (var x ≐ v) ∷ r) c i in
              let tie : Tied l x = record { symbol = b; args = us; others = r; equation = j } in
              inl (g w x (record { tie = tie; inside = m }) x-holds)

          next : Starts (names t ++ xs) r
          next w m = go_in (dec_lt 0 (count w (names t)))
            where
              later : P w ⊎ (touches w l ≡ 0) → P w ⊎ (touches w r ≡ 0)
              later (inl p) = inl p
              later (inr j) = inr (omega (arith, j, touches-∼ w i))

              go_in : Dec (0 < count w (names t)) → P w ⊎ (touches w r ≡ 0)
              go_in (yes v) = inside w t refl v
              go_in (no v) = later (f w (omega (arith, m, v, sum-append (δ w) (names t) xs)))

          here : Dec (z ≡ x) → P z
          here (yes v) = subst P (sym v) x-holds
          here (no v) =
              let j = tied_rest x t o i h v in
              ih
              (names t ++ xs)
              r
              (omega (arith, a, perm_length i))
              (omega (arith, k, perm_length i))
              (rest-once i o)
              next
              (λ u w m p. g u w (hangs_more i m) p)
              z
              (record { symbol = h.symbol; args = h.args; others = j.0; equation = j.1 })
              (ap (touches z) (sym (drain-tie n x xs l t r e k)) ∙ q)

  reaches : (n b : ℕ) → Reaches n b
  reaches n zero xs l a k o f g = absurd (omega (arith, a))
  reaches n (suc b) xs l a k o f g = reaches_more n b (reaches n b) xs l (omega (arith, a)) k o f g

  pub drain-reaches : (n : ℕ) (xs : List ℕ) (l : List Eqn) → length l ≤ n → Once l → Starts xs l → Spreads l
      → (z : ℕ) → Tied l z → touches z (drain n xs l) ≡ 0 → P z
  drain-reaches n xs l k o f g = reaches n (suc n) xs l (omega (arith, k)) k o f g

-- What is left, and what was met, are all the equations.
abbrev Shared : List Eqn → List Eqn → Type 0
Shared l m = (k : List Eqn) × (l ∼ k ++ m)

drain_by_shared : (f : List ℕ → List Eqn → List Eqn) → ((xs : List ℕ) (l : List Eqn) → Shared l (f xs l))
    → (xs : List ℕ) (l : List Eqn) → Shared l (drain_by f xs l)
drain_by_shared f h [] l = ([], whole l)
drain_by_shared f h (x ∷ xs) l = go (pick x l) (pick_is x l) (drain_by_shared f h xs l)
  where
    go : (p : Pick) → PickIs x l p → Shared l (drain_by f xs l) → Shared l (went f xs p (drain_by f xs l))
    go alone i w = w
    go (beside t r) i w =
        let v = h (names t ++ xs) r in ((var x ≐ t) ∷ v.0, step i (on (var x ≐ t) v.1))

pub drain_shared : (n : ℕ) (xs : List ℕ) (l : List Eqn) → (k : List Eqn) × (l ∼ k ++ drain n xs l)
drain_shared zero xs l = drain_by_shared (λ ys m. m) (λ ys m. ([], whole m)) xs l
drain_shared (suc n) xs l = drain_by_shared (drain n) (drain_shared n) xs l
