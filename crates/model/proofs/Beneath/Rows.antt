-- The rows of the step table that have a name on a side, one by one, on the names as they are before the step.
use Rattle.std.specs.Prelude.{◌≡◌, refl, List, ℕ, ◌≤◌, ◌<◌, get_or, set}
use Rattle.std.proofs.Common.{sym, ◌∙◌, ap, arith, length-set, get_or-set_same, get_or-set_other, set-set}
use Rattle.std.proofs.Math.Decide.{ℕ_discrete, dec_lt}
use Rattle.std.proofs.lemmas.List.{set_comm}
use Rattle.parts.specs.Limits.{loops_max}
use Rattle.parts.specs.Sides.{Side, name, cell, ◌:=◌}
use Rattle.parts.specs.Codes.{side-code}
use Rattle.model.specs.State.{St, bound, to, bond, with_names}
use Rattle.model.specs.Step.{Answer, moved, refused, put}
use Rattle.model.specs.Follow.{Followed, drop_bond, follow_by, follow}
use Rattle.model.specs.Stepped.{looped, fasten, wire}
use Rattle.model.specs.Rows.{Bare, Tied, Joined, tie, join, free, count_loop}
use Rattle.model.specs.Sound.{Mutual}
use Rattle.model.proofs.Beneath.Pool.{in_range}

module _ (l : List ℕ) (x : ℕ) where
  follow-bare : get_or l x 0 ≡ 1 → follow (name x) l ≡ record { end = name x; names = l }
  follow-bare e = ap (λ v. follow_by x l (bond v)) e

  follow-bound : (s : Side) → get_or l x 0 ≡ bound s → follow (name x) l ≡ record { end = s; names = drop_bond x s l }
  follow-bound s e = ap (λ v. follow_by x l (bond v)) e ∙ ap (λ t. follow_by x l (to t)) (side-code s)

wires : (a b : Side) (s : St) (F G : Followed) → follow a s.names ≡ F → follow b F.names ≡ G
    → wire a b s ≡ fasten F.end G.end (with_names G.names s)
wires a b s F G e f =
    ap (λ H. fasten H.end (follow b H.names).end (with_names (follow b H.names).names s)) e
    ∙ ap (λ H. fasten F.end H.end (with_names H.names s)) f

joins-ends : (x y : ℕ) (s : St) → ¬ (x ≡ y)
    → fasten (name x) (name y) s ≡ moved (join x y s)
joins-ends x y s n = go (ℕ_discrete x y)
  where
    go : (d : Dec (x ≡ y))
        → elim d as (λ w. Answer) [ yes p ↦ looped x s | no p ↦ moved (join x y s) ] ≡ moved (join x y s)
    go (yes p) = absurd (n p)
    go (no p) = refl

loops_end : (x : ℕ) (s : St) → fasten (name x) (name x) s ≡ looped x s
loops_end x s = go (ℕ_discrete x x)
  where
    go : (d : Dec (x ≡ x))
        → elim d as (λ w. Answer) [ yes p ↦ looped x s | no p ↦ moved (join x x s) ] ≡ looped x s
    go (yes p) = refl
    go (no p) = absurd (p refl)

-- A loop counted, and one that cannot be.
pub counted : (x : ℕ) (s : St) → s.loops < loops_max
    → looped x s ≡ moved (count_loop (free x s))
counted x s h = go (dec_lt s.loops loops_max)
  where
    go : (d : Dec (s.loops < loops_max))
        → elim d as (λ w. Answer) [ yes k ↦ moved (count_loop (free x s)) | no k ↦ refused 13 ]
        ≡ moved (count_loop (free x s))
    go (yes k) = refl
    go (no k) = absurd (k h)

pub uncounted : (x : ℕ) (s : St) → loops_max ≤ s.loops → looped x s ≡ refused 13
uncounted x s h = go (dec_lt s.loops loops_max)
  where
    go : (d : Dec (s.loops < loops_max))
        → elim d as (λ w. Answer) [ yes k ↦ moved (count_loop (free x s)) | no k ↦ refused 13 ] ≡ refused 13
    go (yes k) = absurd (omega arith)
    go (no k) = refl

module _ (s : St) (m : Mutual s.names) (x : ℕ) where
  abbrev l : List ℕ
  l = s.names

  -- Names alone changed, to equal words.
  to_names : {a : Answer} {k k' : List ℕ} → a ≡ moved (with_names k s) → k ≡ k' → a ≡ moved (with_names k' s)
  to_names e q = e ∙ ap (λ w. moved (with_names w s)) q

  -- x = U
  pub bare-row : (u : ℕ) → Bare s x → wire (name x) (cell u) s ≡ moved (tie x u s)
  bare-row u e = wires (name x) (cell u) s (record { end = name x; names = l }) (record { end = cell u; names = l }) (follow-bare l x e) refl

  pub joined-row : (u y : ℕ) → Joined s x y
      → wire (name x) (cell u) s ≡ moved (tie y u (free x s))
  joined-row u y e =
      to_names
      (wires (name x) (cell u) s (record { end = name y; names = drop_bond x (name y) l }) (record { end = cell u; names = drop_bond x (name y) l }) (follow-bound l x (name y) e) refl)
      (set-set (set l x 0) y 1 (bound (cell u)))

  pub tied_row : (u t : ℕ) → Tied s x t
      → wire (name x) (cell u) s ≡ moved (put (cell t := cell u) (free x s))
  tied_row u t e = wires (name x) (cell u) s (record { end = cell t; names = set l x 0 }) (record { end = cell u; names = set l x 0 }) (follow-bound l x (cell t) e) refl

  -- x = x, and x = y with x joined to y
  pub loop-row : Bare s x → wire (name x) (name x) s ≡ looped x s
  loop-row e = wires (name x) (name x) s (record { end = name x; names = l }) (record { end = name x; names = l }) (follow-bare l x e) (follow-bare l x e) ∙ loops_end x s

  module _ (y : ℕ) where
    -- What is read at y after x was dropped: y is as it was, if x was not joined to it.
    off : (v : ℕ) → ¬ (x ≡ y) → get_or (set l x v) y 0 ≡ get_or l y 0
    off v n = get_or-set_other l x y v 0 (λ q. n (sym q))

    after_join : (z : ℕ) → ¬ (x ≡ y) → ¬ (z ≡ y) → get_or (drop_bond x (name z) l) y 0 ≡ get_or l y 0
    after_join z n k = get_or-set_other (set l x 0) z y 1 0 (λ q. k (sym q)) ∙ off 0 n

    other_words : (v w : ℕ) → get_or l x 0 ≡ v → get_or l y 0 ≡ w → ¬ (v ≡ w) → ¬ (x ≡ y)
    other_words v w e f n q = n (sym e ∙ ap (λ i. get_or l i 0) q ∙ f)

    pub loop_joined-row : Joined s x y
        → wire (name x) (name y) s ≡ looped y (with_names (set (set l x 0) y 1) s)
    loop_joined-row e =
        wires (name x) (name y) s (record { end = name y; names = drop_bond x (name y) l }) (record { end = name y; names = drop_bond x (name y) l }) (follow-bound l x (name y) e) (follow-bare (drop_bond x (name y) l) y at_y)
        ∙ loops_end y (with_names (drop_bond x (name y) l) s)
      where
        at_y : get_or (set (set l x 0) y 1) y 0 ≡ 1
        at_y = get_or-set_same (set l x 0) y 1 0 (omega (arith, length-set l x 0, in_range l y (omega (arith, (m x y e).0))))

    -- x = y otherwise, by the rows of document 001, Figure 2
    pub row_0_0 : Bare s x → Bare s y → ¬ (x ≡ y)
        → wire (name x) (name y) s ≡ moved (join x y s)
    row_0_0 e f n = wires (name x) (name y) s (record { end = name x; names = l }) (record { end = name y; names = l }) (follow-bare l x e) (follow-bare l y f) ∙ joins-ends x y s n

    pub row_0_c : (w : ℕ) → Bare s x → Joined s y w
        → wire (name x) (name y) s ≡ moved (join x w (free y s))
    row_0_c w e f =
        to_names
        (wires (name x) (name y) s (record { end = name x; names = l }) (record { end = name w; names = drop_bond y (name w) l }) (follow-bare l x e) (follow-bound l y (name w) f)
        ∙ joins-ends x w (with_names (drop_bond y (name w) l) s) apart)
        (ap (λ k. set k w (bound (name x))) (set_comm (set l y 0) w x 1 (bound (name w)) (λ q. apart (sym q))) ∙ set-set (set (set l y 0) x (bound (name w))) w 1 (bound (name x)))
      where
        apart : ¬ (x ≡ w)
        apart q = omega (arith, e, (m y w f).0, ap (λ i. get_or l i 0) q)

    pub row_0_e : (u : ℕ) → Bare s x → Tied s y u
        → wire (name x) (name y) s ≡ moved (tie x u (free y s))
    row_0_e u e f = wires (name x) (name y) s (record { end = name x; names = l }) (record { end = cell u; names = set l y 0 }) (follow-bare l x e) (follow-bound l y (cell u) f)

    pub row-c_0 : (z : ℕ) → Joined s x z → Bare s y
        → wire (name x) (name y) s ≡ moved (join z y (free x s))
    row-c_0 z e f =
        to_names
        (wires
        (name x)
        (name y)
        s
        (record { end = name z; names = drop_bond x (name z) l })
        (record { end = name y; names = drop_bond x (name z) l })
        (follow-bound l x (name z) e)
        (follow-bare (drop_bond x (name z) l) y (after_join z (other_words (bound (name z)) 1 e f (λ q. omega arith)) apart ∙ f))
        ∙ joins-ends z y (with_names (drop_bond x (name z) l) s) apart)
        (ap (λ k. set k y (bound (name z))) (set-set (set l x 0) z 1 (bound (name y))))
      where
        apart : ¬ (z ≡ y)
        apart q = omega (arith, f, (m x z e).0, ap (λ i. get_or l i 0) q)

    pub row-c-c : (z w : ℕ) → Joined s x z → Joined s y w → ¬ (x ≡ y) → ¬ (z ≡ y)
        → wire (name x) (name y) s ≡ moved (join z w (free y (free x s)))
    row-c-c z w e f n k =
        to_names
        (wires
        (name x)
        (name y)
        s
        (record { end = name z; names = drop_bond x (name z) l })
        (record { end = name w; names = drop_bond y (name w) (drop_bond x (name z) l) })
        (follow-bound l x (name z) e)
        (follow-bound (drop_bond x (name z) l) y (name w) (after_join z n k ∙ f))
        ∙ joins-ends z w (with_names (drop_bond y (name w) (drop_bond x (name z) l)) s) apart)
        (ap
        (λ k. set k w (bound (name z)))
        (set_comm B w z 1 (bound (name w)) (λ q. apart (sym q))
        ∙ ap (λ k. set k w 1) (ap (λ k. set k z (bound (name w))) (set_comm (set l x 0) z y 1 0 k) ∙ set-set (set (set l x 0) y 0) z 1 (bound (name w))))
        ∙ set-set (set (set (set l x 0) y 0) z (bound (name w))) w 1 (bound (name z)))
      where
        B : List ℕ
        B = set (set (set l x 0) z 1) y 0

        apart : ¬ (z ≡ w)
        apart q = n (omega (arith, (m x z e).0, (m y w f).0, ap (λ i. get_or l i 0) q))

    pub row-c-e : (z u : ℕ) → Joined s x z → Tied s y u
        → wire (name x) (name y) s ≡ moved (tie z u (free y (free x s)))
    row-c-e z u e f =
        to_names
        (wires
        (name x)
        (name y)
        s
        (record { end = name z; names = drop_bond x (name z) l })
        (record { end = cell u; names = set (drop_bond x (name z) l) y 0 })
        (follow-bound l x (name z) e)
        (follow-bound (drop_bond x (name z) l) y (cell u) (after_join z (other_words (bound (name z)) (bound (cell u)) e f (λ q. omega arith)) apart ∙ f)))
        (ap (λ k. set k z (bound (cell u))) (set_comm (set l x 0) z y 1 0 apart) ∙ set-set (set (set l x 0) y 0) z 1 (bound (cell u)))
      where
        apart : ¬ (z ≡ y)
        apart q = omega (arith, f, (m x z e).0, ap (λ i. get_or l i 0) q)

    pub row-e_0 : (t : ℕ) → Tied s x t → Bare s y
        → wire (name x) (name y) s ≡ moved (tie y t (free x s))
    row-e_0 t e f =
        wires
        (name x)
        (name y)
        s
        (record { end = cell t; names = set l x 0 })
        (record { end = name y; names = set l x 0 })
        (follow-bound l x (cell t) e)
        (follow-bare (set l x 0) y (off 0 (other_words (bound (cell t)) 1 e f (λ q. omega arith)) ∙ f))

    pub row-e-c : (t w : ℕ) → Tied s x t → Joined s y w
        → wire (name x) (name y) s ≡ moved (tie w t (free y (free x s)))
    row-e-c t w e f =
        to_names
        (wires
        (name x)
        (name y)
        s
        (record { end = cell t; names = set l x 0 })
        (record { end = name w; names = drop_bond y (name w) (set l x 0) })
        (follow-bound l x (cell t) e)
        (follow-bound (set l x 0) y (name w) (off 0 (other_words (bound (cell t)) (bound (name w)) e f (λ q. omega arith)) ∙ f)))
        (set-set (set (set l x 0) y 0) w 1 (bound (cell t)))

    pub row-e-e : (t u : ℕ) → Tied s x t → Tied s y u → ¬ (x ≡ y)
        → wire (name x) (name y) s ≡ moved (put (cell t := cell u) (free y (free x s)))
    row-e-e t u e f n =
        wires
        (name x)
        (name y)
        s
        (record { end = cell t; names = set l x 0 })
        (record { end = cell u; names = set (set l x 0) y 0 })
        (follow-bound l x (cell t) e)
        (follow-bound (set l x 0) y (cell u) (off 0 n ∙ f))
