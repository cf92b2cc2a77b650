-- The ties never met are those on circles of ties or behind them.
use Rattle.std.specs.Prelude.{◌≡◌, refl, List, [], ◌∷◌, ◌++◌, ◌⊎◌, ℕ, ◌+◌, ◌≤◌, ◌<◌, length}
use Rattle.std.proofs.Common.{sym, ◌∙◌, ap, subst, inl, inr, arith}
use Rattle.std.proofs.Math.Decide.{ℕ_discrete, dec_lt}
use Rattle.calculus.specs.Terms.{step, var, node, Term, Terms, Eqn, ◌≐◌, Conf, ◌∼◌, names, touch, touches}
use Rattle.calculus.specs.Terms.{eqs_names, occurs, δ, count}
use Rattle.calculus.specs.Calculus.{Valid, Closed}
use Rattle.calculus.proofs.Beneath.Perm.{perm_append_left, perm_shift}
use Rattle.calculus.proofs.Beneath.Sub.{Sides_equivalence, whole}
use Rattle.calculus.proofs.Beneath.Count.{δ_same, sum-append}
use Rattle.calculus.proofs.Beneath.Ended.{touches-∼, touches-append, touch-count}
use Rattle.calculus.proofs.Beneath.Occurs.{closed-valid}
use Rattle.answers.specs.Answer.{Pick, alone, beside, pick, stuck, sides, tied_agents, pairs_read}
use Rattle.answers.specs.Knots.{Tied, Hangs, Up, here, more, Circle, Behind, Held, by_face, by_pair, by_tie}
use Rattle.answers.specs.Knots.{Knotted}
use Rattle.answers.proofs.Beneath.Order.{PickIs, pick_is}
use Rattle.answers.proofs.Beneath.Drain.{Once, drain}
use Rattle.answers.proofs.Beneath.Knot.{drain-append, left_over}
use Rattle.answers.proofs.Beneath.Wired.{wire, wired, inside, inner, inner-∼, wired-∼, stuck-names}
use Rattle.answers.proofs.Beneath.Ties.{tie_same, tied_head, tied_turned, tied_rest, hangs_more, tied_touched}
use Rattle.answers.proofs.Beneath.Ties.{Settled, drain-settled, drain-reaches, drain_shared}
use Rattle.answers.proofs.Beneath.Climb.{all_behind}
use Rattle.answers.proofs.Beneath.TieSums.{tied_first, tied_second, same_agents}

-- The equations that are left when the end is read.
abbrev pub never_met : Conf → List Eqn
never_met C = (pairs_read C).after.unmet

-- How often a name is a side and how often it occurs within the agents of ties.
touch-wired : (x : ℕ) (l : List Eqn) → touches x l + inner x l ≤ wired x l
touch-wired x [] = omega arith
touch-wired x ((t ≐ u) ∷ l) = omega (arith, go t u, touch-wired x l)
  where
    go : (t u : Term) → touch x (t ≐ u) + inside x t u ≤ wire x t u
    go (var y) (var z) = omega arith
    go (var y) (node b us) = omega arith
    go (node a ts) (var y) = omega arith
    go (node a ts) (node b us) = omega arith

untouched_wired : (x : ℕ) (l : List Eqn) → touches x l ≡ 0 → wired x l ≡ inner x l
untouched_wired x [] h = refl
untouched_wired x ((t ≐ u) ∷ l) h = omega (arith, go t u (omega (arith, h)), untouched_wired x l (omega (arith, h)))
  where
    go : (t u : Term) → touch x (t ≐ u) ≡ 0 → wire x t u ≡ inside x t u
    go (var y) (var z) h = omega (arith, h)
    go (var y) (node b us) h = omega (arith, h)
    go (node a ts) (var y) h = omega (arith, h)
    go (node a ts) (node b us) h = refl

-- What occurs within an agent of a tie hangs on that tie.
hangs-inner : {l : List Eqn} {x y : ℕ} → Hangs l x y → 0 < inner x l
hangs-inner {x = x} h = omega (arith, h.inside, inner-∼ x h.tie.equation)

inner-hangs : (x : ℕ) (l : List Eqn) → 0 < inner x l → (y : ℕ) × Hangs l x y
inner-hangs x [] k = absurd (omega (arith, k))
inner-hangs x ((t ≐ u) ∷ l) k = go t u k (inner-hangs x l)
  where
    rest : (e : Eqn) → (y : ℕ) × Hangs l x y → (y : ℕ) × Hangs (e ∷ l) x y
    rest e h = (h.0, hangs_more (whole (e ∷ l)) h.1)

    go : (t u : Term) → 0 < inside x t u + inner x l → (0 < inner x l → (y : ℕ) × Hangs l x y)
        → (z : ℕ) × Hangs ((t ≐ u) ∷ l) x z
    go (var y) (var z) k d = rest (var y ≐ var z) (d (omega (arith, k)))
    go (var y) (node b us) k d = first (dec_lt 0 (count x (names us)))
      where
        first : Dec (0 < count x (names us)) → (z : ℕ) × Hangs ((var y ≐ node b us) ∷ l) x z
        first (yes i) = (y, record { tie = tied_head y b us l; inside = i })
        first (no i) = rest (var y ≐ node b us) (d (omega (arith, k, i)))
    go (node a ts) (var y) k d = first (dec_lt 0 (count x (names ts)))
      where
        first : Dec (0 < count x (names ts)) → (z : ℕ) × Hangs ((node a ts ≐ var y) ∷ l) x z
        first (yes i) = (y, record { tie = tied_turned y a ts l; inside = i })
        first (no i) = rest (node a ts ≐ var y) (d (omega (arith, k, i)))
    go (node a ts) (node b us) k d = rest (node a ts ≐ node b us) (d (omega (arith, k)))

-- A tie on a circle or behind one hangs on such a tie.
behind_up : {l : List Eqn} {x : ℕ} → Behind l x → (y : ℕ) × (Hangs l x y × Behind l y)
behind_up {l} h = go h.way h.circle
  where
    go : {x z : ℕ} → Up l x z → Circle l z → (y : ℕ) × (Hangs l x y × Behind l y)
    go {x} here c = (c.above, (c.hangs, record { top = x; way = c.round; circle = c }))
    go {z = z} (more {y = y} g p) c = (y, (g, record { top = z; way = p; circle = c }))

-- The names that are followed.
abbrev pairs : Conf → Terms
pairs C = sides (stuck C.eqs)

abbrev seen : Conf → List ℕ
seen C = names C.face ++ names (pairs C)

module _ (C : Conf) (o : Once C.eqs) where
  left_is : never_met C ≡ drain (length C.eqs) (seen C) C.eqs
  left_is = left_over C o ∙ sym (drain-append (length C.eqs) (names C.face) (names (pairs C)) C.eqs (omega arith))

  settled : Settled (seen C) C.eqs (never_met C)
  settled =
      subst (Settled (seen C) C.eqs) (sym left_is) (drain-settled (length C.eqs) (seen C) C.eqs (omega arith) o)

  -- No tie that is held is left.
  held_gone : {x : ℕ} → Held C x → touches x (never_met C) ≡ 0
  held_gone {x} (by_face k) = settled.named x (omega (arith, k, sum-append (δ x) (names C.face) (names (pairs C))))
  held_gone {x} (by_pair k) = settled.named x (omega (arith, k, sum-append (δ x) (names C.face) (names (pairs C))))
  held_gone {x} (by_tie {y = y} h k) = settled.within x y h (held_gone k)

  pub left_free : (x : ℕ) → Tied (never_met C) x → Held C x → ⊥
  left_free x t h = omega (arith, tied_touched t, held_gone h)

  -- Each tie that is not left is held.
  gone_held : (x : ℕ) → Tied C.eqs x → touches x (never_met C) ≡ 0 → Held C x
  gone_held x t e =
      drain-reaches
      (Held C)
      (length C.eqs)
      (seen C)
      C.eqs
      (omega arith)
      o
      (λ z k. inl (go z k (dec_lt 0 (count z (names C.face)))))
      (λ x y h k. by_tie h k)
      x
      t
      (ap (touches x) (sym left_is) ∙ e)
    where
      go : (z : ℕ) → 0 < count z (seen C) → Dec (0 < count z (names C.face)) → Held C z
      go z k (yes f) = by_face f
      go z k (no f) = by_pair {x = z} (omega (arith, k, f, sum-append (δ z) (names C.face) (names (pairs C))))

  -- The equations that were met are the others.
  shared : (k : List Eqn) × (C.eqs ∼ k ++ never_met C)
  shared =
      subst
      (λ m. (k : List Eqn) × (C.eqs ∼ k ++ m))
      (sym left_is)
      (drain_shared (length C.eqs) (seen C) C.eqs)

  met-held : (x : ℕ) → Tied shared.0 x → Held C x
  met-held x t =
      gone_held x (tied_first shared.0 (never_met C) shared.1 x t) (omega (
        arith,
        o x,
        touches-∼ x shared.1,
        touches-append x shared.0 (never_met C),
        tied_touched t,
      ))

  left_tied : (x : ℕ) → Tied (never_met C) x → Tied C.eqs x
  left_tied x t = tied_second shared.0 (never_met C) shared.1 x t

  -- Each tie is held or left.
  pub held_or_left : (x : ℕ) → Tied C.eqs x → Held C x ⊎ Tied (never_met C) x
  held_or_left x t = go (pick x (never_met C)) (pick_is x (never_met C))
    where
      go : (p : Pick) → PickIs x (never_met C) p → Held C x ⊎ Tied (never_met C) x
      go alone i = inl (gone_held x t i)
      go (beside u q) i =
          let j : C.eqs ∼ (var x ≐ u) ∷ (shared.0 ++ q) =
          step
          shared.1
          (step
          (perm_append_left Sides_equivalence shared.0 i)
          (perm_shift Sides_equivalence shared.0 (var x ≐ u) q)) in
          inr (record {
            symbol = t.symbol;
            args = t.args;
            others = q;
            equation = subst (λ v. never_met C ∼ (var x ≐ v) ∷ q) (tie_same x o j t.equation) i;
          })

module _ (C : Conf) (v : Valid C) (o : Once C.eqs) where
  few : (z : ℕ) → count z (names C.face) + count z (names (pairs C)) + wired z C.eqs ≤ 2
  few z = omega (arith, v z, stuck-names z C.eqs, sum-append (δ z) (names C.face) (eqs_names C.eqs))

  -- A tie hangs on one other at most.
  one_above : (x y w : ℕ) → Tied C.eqs x → Hangs C.eqs x y → Hangs C.eqs x w → y ≡ w
  one_above x y w t h k = go (ℕ_discrete y w)
    where
      go : Dec (y ≡ w) → y ≡ w
      go (yes e) = e
      go (no e) =
          let q = tied_rest w (node k.tie.symbol k.tie.args) o k.tie.equation h.tie e in
          absurd (omega (
            arith,
            few x,
            touch-wired x C.eqs,
            tied_touched t,
            inner-∼ x k.tie.equation,
            inner-∼ x q.1,
            h.inside,
            k.inside,
          ))

  -- No tie is held and also on a circle or behind one.
  pub held_not_behind : {x : ℕ} → Held C x → Tied C.eqs x → Behind C.eqs x → ⊥
  held_not_behind {x} (by_face k) t b =
      omega (arith, few x, touch-wired x C.eqs, tied_touched t, k, hangs-inner (behind_up b).1.0)
  held_not_behind {x} (by_pair k) t b =
      omega (arith, few x, touch-wired x C.eqs, tied_touched t, k, hangs-inner (behind_up b).1.0)
  held_not_behind {x} (by_tie {y = y} h k) t b =
      let u = behind_up b in
      held_not_behind k h.tie (subst (Behind C.eqs) (one_above x u.0 y t u.1.0 h) u.1.1)

module _ (C : Conf) (c : Closed C) (o : Once C.eqs) where
  twice : (x : ℕ) → Tied C.eqs x → occurs x C ≡ 2
  twice x t = go (c x)
    where
      go : (occurs x C ≡ 0) ⊎ (occurs x C ≡ 2) → occurs x C ≡ 2
      go (inr e) = e
      go (inl e) =
          absurd (omega (
            arith,
            e,
            tied_touched t,
            touch-count x C.eqs,
            sum-append (δ x) (names C.face) (eqs_names C.eqs),
          ))

  -- Each tie left hangs on a tie left, as its name occurs once more and in nothing that was met.
  pub left_hangs : (x : ℕ) → Tied (never_met C) x → (y : ℕ) × (Hangs C.eqs x y × Tied (never_met C) y)
  left_hangs x k =
      let h = inner-hangs x C.eqs inside_some in
      (h.0, (h.1, go h.0 h.1 (held_or_left C o h.0 h.1.tie)))
    where
      t : Tied C.eqs x
      t = left_tied C o x k

      go : (y : ℕ) → Hangs C.eqs x y → Held C y ⊎ Tied (never_met C) y → Tied (never_met C) y
      go y h (inr e) = e
      go y h (inl e) = absurd (left_free C o x k (by_tie h e))

      unseen : Dec (0 < count x (seen C)) → count x (seen C) ≡ 0
      unseen (yes e) = absurd (omega (arith, tied_touched k, (settled C o).named x e))
      unseen (no e) = omega (arith, e)

      inside_some : 0 < inner x C.eqs
      inside_some =
          omega (
            arith,
            unseen (dec_lt 0 (count x (seen C))),
            sum-append (δ x) (names C.face) (names (pairs C)),
            sum-append (δ x) (names C.face) (eqs_names C.eqs),
            stuck-names x C.eqs,
            twice x t,
            wired-∼ x t.equation,
            inner-∼ x t.equation,
            δ_same x,
            untouched_wired x t.others (omega (arith, o x, touches-∼ x t.equation, δ_same x)),
          )

  left_behind : (x : ℕ) → Tied (never_met C) x → Behind C.eqs x
  left_behind x k = all_behind C.eqs (Tied (never_met C)) (left_tied C o) left_hangs x k

  pub knotted : Knotted C
  knotted =
      record {
        met = (shared C o).0;
        never = never_met C;
        parted = (shared C o).1;
        held = met-held C o;
        behind = left_behind;
        knot = refl;
      }

  -- However the ties on circles and behind them are parted from the others, they have as many agents as the knot.
  pub knot_is : (k m : List Eqn) → C.eqs ∼ k ++ m → ((x : ℕ) → Tied k x → Behind C.eqs x → ⊥)
      → ((x : ℕ) → Tied m x → Behind C.eqs x)
      → tied_agents (never_met C) ≡ tied_agents m
  knot_is k m p f h =
      same_agents P test C.eqs (shared C o).0 (never_met C) (shared C o).1 met_gone (λ x t. tied_touched t)
      ∙ sym (same_agents P test C.eqs k m p others_gone these_left)
    where
      P : ℕ → Type 0
      P x = 0 < touches x (never_met C)

      test : (x : ℕ) → Dec (P x)
      test x = dec_lt 0 (touches x (never_met C))

      met_gone : (x : ℕ) → Tied (shared C o).0 x → P x → ⊥
      met_gone x t e = omega (arith, held_gone C o (met-held C o x t), e)

      others_gone : (x : ℕ) → Tied k x → P x → ⊥
      others_gone x t e = go (held_or_left C o x (tied_first k m p x t))
        where
          go : Held C x ⊎ Tied (never_met C) x → ⊥
          go (inl q) = omega (arith, held_gone C o q, e)
          go (inr q) = f x t (left_behind x q)

      these_left : (x : ℕ) → Tied m x → P x
      these_left x t = go (held_or_left C o x (tied_second k m p x t))
        where
          go : Held C x ⊎ Tied (never_met C) x → P x
          go (inl q) = absurd (held_not_behind C (closed-valid C c) o q (tied_second k m p x t) (h x t))
          go (inr q) = tied_touched q
