-- The stuck pairs are read by Substitutions.
use Rattle.std.specs.Prelude.{◌≡◌, List, [], ◌∷◌, ◌++◌, ◌⊎◌, ℕ, ◌+◌, ◌*◌, ◌≤◌, ◌<◌, length}
use Rattle.std.proofs.Math.Path.{refl, sym, ap}
use Rattle.std.proofs.Common.{◌∙◌, subst, inl, inr, arith}
use Rattle.calculus.specs.Terms.{one, var, node, Term, Terms, Eqn, ◌≐◌, Conf, names, δ, count, none, keep, swap, touch, touches}
use Rattle.calculus.specs.Terms.{step, Sides, ◌∼◌, ◌⟦◌/◌⟧}
use Rattle.calculus.specs.Calculus.{Valid, Substitution}
use Rattle.calculus.proofs.Beneath.Count.{δ_same, sum-append}
use Rattle.calculus.proofs.Beneath.Perm.{perm_append, perm_append_right, perm_exchange, perm_shift}
use Rattle.calculus.proofs.Beneath.Sub.{Sides_equivalence, ≈of, whole, back, on}
use Rattle.answers.specs.Answer.{start, face_read, pairs_read, read, stuck_pair, stuck, sides, tie_agents}
use Rattle.answers.specs.Answer.{tied_agents}
use Rattle.answers.specs.Collected.{Substitutes, done, more, Substituted, fresh}
use Rattle.answers.proofs.Beneath.Collecting.{put, collected, gathered}
use Rattle.answers.proofs.Beneath.Context.{Place, top, plug, plug-count, Inside, Allowed}
use Rattle.answers.proofs.Beneath.Drain.{Once}
use Rattle.answers.proofs.Beneath.Along.{size}
use Rattle.answers.proofs.Beneath.Gather.{Gathered, gather}
use Rattle.answers.proofs.Beneath.Spot.{paired, paired-sides, sides-paired, Flat, flat-inside, Spot, spot, SideAt}
use Rattle.answers.proofs.Beneath.Spot.{stands}
use Rattle.answers.proofs.Beneath.Whole.{read-agree}
use Rattle.answers.proofs.Beneath.Wired.{wired, wired-∼}

-- The equations that are no stuck pairs.
abbrev tie : Term → Term → List Eqn
tie (var x) u = (var x ≐ u) ∷ []
tie (node a ts) (var y) = (node a ts ≐ var y) ∷ []
tie (node a ts) (node b us) = []

abbrev ties : List Eqn → List Eqn
ties [] = []
ties ((t ≐ u) ∷ l) = tie t u ++ ties l

tie-turn : (t u : Term) → tie t u ∼ tie u t
tie-turn (var x) (var y) = keep Sides.turn none
tie-turn (var x) (node b us) = keep Sides.turn none
tie-turn (node a ts) (var y) = keep Sides.turn none
tie-turn (node a ts) (node b us) = none

tie-sides : {t u s r : Term} → Sides (t ≐ u) (s ≐ r) → tie t u ∼ tie s r
tie-sides {t} {u} Sides.same = whole (tie t u)
tie-sides {t} {u} Sides.turn = tie-turn t u

ties-∼ : {l m : List Eqn} → l ∼ m → ties l ∼ ties m
ties-∼ none = none
ties-∼ (keep {a = t ≐ u} {b = s ≐ r} e p) = perm_append Sides_equivalence (tie-sides e) (ties-∼ p)
ties-∼ (swap {a = t ≐ u} {b = s ≐ r} {l = l}) = perm_exchange Sides_equivalence (tie t u) (tie s r) (ties l)
ties-∼ (step p q) = step (ties-∼ p) (ties-∼ q)

-- Equations are stuck pairs and others.
parted : (l : List Eqn) → l ∼ stuck l ++ ties l
parted [] = none
parted ((t ≐ u) ∷ l) = go t u (parted l)
  where
    go : (t u : Term) → l ∼ stuck l ++ ties l → (t ≐ u) ∷ l ∼ (stuck_pair t u ++ stuck l) ++ (tie t u ++ ties l)
    go (var x) u h = step (on (var x ≐ u) h) (back (perm_shift Sides_equivalence (stuck l) (var x ≐ u) (ties l)))
    go (node a ts) (var y) h =
        step (on (node a ts ≐ var y) h) (back (perm_shift Sides_equivalence (stuck l) (node a ts ≐ var y) (ties l)))
    go (node a ts) (node b us) h = on (node a ts ≐ node b us) h

touches-ties : (z : ℕ) (l : List Eqn) → touches z (ties l) ≡ touches z l
touches-ties z [] = refl
touches-ties z ((t ≐ u) ∷ l) = go t u (touches-ties z l)
  where
    go : (t u : Term) → touches z (ties l) ≡ touches z l
        → touches z (tie t u ++ ties l) ≡ touch z (t ≐ u) + touches z l
    go (var x) u h = omega (arith, h)
    go (node a ts) (var y) h = omega (arith, h)
    go (node a ts) (node b us) h = omega (arith, h)

agents-ties : (l : List Eqn) → tied_agents (ties l) ≡ tied_agents l
agents-ties [] = refl
agents-ties ((t ≐ u) ∷ l) = go t u (agents-ties l)
  where
    go : (t u : Term) → tied_agents (ties l) ≡ tied_agents l
        → tied_agents (tie t u ++ ties l) ≡ tie_agents t u + tied_agents l
    go (var x) u h = omega (arith, h)
    go (node a ts) (var y) h = omega (arith, h)
    go (node a ts) (node b us) h = omega (arith, h)

stuck-allowed : (l : List Eqn) → Allowed ⊥ (sides (stuck l))
stuck-allowed [] = tt
stuck-allowed ((t ≐ u) ∷ l) = go t u (stuck-allowed l)
  where
    go : (t u : Term) → Allowed ⊥ (sides (stuck l)) → Allowed ⊥ (sides (stuck_pair t u ++ stuck l))
    go (var x) u h = h
    go (node a ts) (var y) h = h
    go (node a ts) (node b us) h = (tt, (tt, h))

agents-stuck : (l : List Eqn) → Allowed ⊥ (sides l) → stuck l ≡ l
agents-stuck [] h = refl
agents-stuck ((t ≐ u) ∷ l) h = go t u h.0 h.1.0 (agents-stuck l h.1.1)
  where
    go : (t u : Term) → Allowed ⊥ t → Allowed ⊥ u → stuck l ≡ l → stuck_pair t u ++ stuck l ≡ (t ≐ u) ∷ l
    go (var x) u h k e = absurd h
    go (node a ts) (var y) h k e = absurd k
    go (node a ts) (node b us) h k e = ap (λ m. (node a ts ≐ node b us) ∷ m) e

pub sides-size : (l : List Eqn) → size (sides l) ≡ 2 * length l
sides-size [] = refl
sides-size ((t ≐ u) ∷ l) = omega (arith, sides-size l)

abbrev net : Terms → List Eqn → Conf
net ts l = record { face = ts; eqs = l }

pub append_substitutes : {C D E : Conf} → Substitutes C D → Substitutes D E → Substitutes C E
append_substitutes done w = w
append_substitutes (more c v) w = more c (append_substitutes v w)

-- Substitutions from a net may start from the same net with its equations in another order.
pub record Restarted (C D : Conf) : Type 0 where
  pub last : Conf
  pub way : Substitutes C last
  pub face : last.face ≡ D.face
  pub eqs : last.eqs ∼ D.eqs

restart : {C E D : Conf} → C.face ≡ E.face → C.eqs ∼ E.eqs → Substitutes E D → Restarted C D
restart {C} f h done = record { last = C; way = done; face = f; eqs = h }
restart {C} {E} f h (more {D = M} c v) =
    let r = restart {C = M} refl (whole M.eqs) v in
    record { last = r.last; way = more first r.way; face = r.face; eqs = r.eqs }
  where
    first : Substitution C M
    first =
        record {
          x = c.x;
          t = c.t;
          α = c.α;
          us = c.us;
          s = c.s;
          Δ = c.Δ;
          inside = c.inside;
          before = step h c.before;
          after = c.after;
          face = c.face ∙ sym f;
        }

module _ (F : Terms) where
  abbrev shape : Terms → List Eqn → Conf
  shape ts l = net F (paired ts ++ ties l)

  abbrev Reach : Terms → List Eqn → Terms → List Eqn → Type 0
  Reach ts l us m = Substitutes (shape ts l) (shape us m)

  follow : (c : Place one) → Inside c → (x : ℕ) (u : Term) (l r : List Eqn) → l ∼ (var x ≐ u) ∷ r
      → ((z : ℕ) → count z (names (plug c (var x))) + wired z l ≤ 2) → Reach (plug c (var x)) l (plug c u) r
  follow c o x u l r i v = go (spot c)
    where
      go : Spot c ⊎ Flat c → Reach (plug c (var x)) l (plug c u) r
      go (inr f) = absurd (flat-inside c f o)
      go (inl p) = more one_substitution done
        where
          e : SideAt p.outer
          e = stands p.outer p.flat

          at : (t : Term) → paired (plug c t) ∼ (node p.α (plug p.inner t) ≐ e.fellow) ∷ e.others
          at t = step (≈of (ap paired (p.equal t))) (e.equation (node p.α (plug p.inner t)))

          one_substitution : Substitution (shape (plug c (var x)) l) (shape (plug c u) r)
          one_substitution =
              record {
                x = x;
                t = u;
                α = p.α;
                us = plug p.inner (var x);
                s = e.fellow;
                Δ = e.others ++ ties r;
                inside = omega (arith, plug-count x p.inner (var x), δ_same x);
                before =
                    step
                    (perm_append Sides_equivalence (at (var x)) (ties-∼ i))
                    (perm_shift
                    Sides_equivalence
                    ((node p.α (plug p.inner (var x)) ≐ e.fellow) ∷ e.others)
                    (var x ≐ u)
                    (ties r));
                after =
                    step
                    (perm_append_right Sides_equivalence (ties r) (at u))
                    (≈of (ap (λ w. (node p.α w ≐ e.fellow) ∷ (e.others ++ ties r)) placed));
                face = refl;
              }
            where
              placed : plug p.inner u ≡ plug p.inner (var x) ⟦ u / x ⟧
              placed = put p.inner x u (omega (
                arith,
                v x,
                plug-count x c (var x),
                wired-∼ x i,
                δ_same x,
                p.around x,
              ))

module _ (C : Conf) (v : Valid C) (o : Once C.eqs) where
  abbrev F : Terms
  F = (gathered C v o).tree

  abbrev pairs : Terms
  pairs = sides (stuck C.eqs)

  -- What is left after the interface.
  abbrev L : List Eqn
  L = (face_read C).after.unmet

  second : Gathered
      (Reach F)
      (λ ts l. done)
      (λ ts us vs k l m. append_substitutes)
      (λ s c. Inside c)
      (λ a c. tt)
      (λ ts c u. u)
      (λ t c u. u)
      (follow F)
      (length C.eqs)
      pairs
      (face_read C).after
      (read 0 F fresh).after
      []
  second =
      gather
      (Reach F)
      (λ ts l. done)
      (λ ts us vs k l m. append_substitutes)
      (λ s c. Inside c)
      (λ a c. tt)
      (λ ts c u. u)
      (λ t c u. u)
      (follow F)
      (length C.eqs)
      pairs
      (face_read C).after
      (read 0 F fresh).after
      []
      (read-agree (length C.eqs) (length C.eqs) C.face (start C) (omega arith) (omega arith)).fewer
      (gathered C v o).made.along

  abbrev K : List Eqn
  K = paired second.tree

  abbrev rest : List Eqn
  rest = ties (pairs_read C).after.unmet

  way : Substitutes (net F (paired pairs ++ ties L)) (net F (K ++ rest))
  way =
      second.made.reach top (stuck-allowed C.eqs)
      (λ z. omega (arith, (gathered C v o).made.along.twice z, sum-append (δ z) (names pairs) []))

  same : L ∼ paired pairs ++ ties L
  same =
      step
      (parted L)
      (perm_append_right
      Sides_equivalence
      (ties L)
      (step (gathered C v o).made.kept (≈of (sym (paired-sides (stuck C.eqs))))))

  even : sides K ≡ second.tree
  even =
      sides-paired
      (length (stuck C.eqs))
      second.tree
      (second.made.long ∙ sides-size (stuck C.eqs))

  pub substituted : Substituted C (collected C v o)
  unfolding collected
  substituted =
      let r = restart {C = net F L} refl same way in
      record {
        last = r.last;
        way = r.way;
        face = r.face;
        pairs = K;
        rest = rest;
        eqs = r.eqs;
        printed = second.made.shown ∙ ap (λ ts. (read 0 ts (read 0 F fresh).after).shown) (sym even);
        no_more =
            λ x h.
            touches-ties x (pairs_read C).after.unmet
            ∙ second.made.settled x (subst (λ ts. 0 < count x (names ts)) even h);
        are_stuck = agents-stuck K (subst (Allowed ⊥) (sym even) (second.made.tops (stuck-allowed C.eqs)));
        as_many = omega (arith, sides-size (stuck C.eqs), sides-size K, ap size even, second.made.long);
        knot = sym (agents-ties (pairs_read C).after.unmet);
      }
