-- Wiring in the shape of the code is the wiring of the model.
use Rattle.std.specs.Prelude.{◌≡◌, refl, false, ℕ, suc, ◌+◌, ◌-◌, ◌<◌, ◌≤◌, ltb, get_or, set}
use Rattle.std.proofs.Common.{ap, ap₂, sym, ◌∙◌, arith, le-ltb, eq-eqb, ne_eqb}
use Rattle.std.proofs.Math.Decide.{ℕ_discrete, dec_lt}
use Rattle.parts.specs.Limits.{loops_max}
use Rattle.parts.specs.Sides.{name, cell, code, side}
use Rattle.parts.specs.Sides as Plain
use Rattle.parts.specs.Typed.{plain, typed, plain-typed}
use Rattle.parts.specs.declared.NameNo.{NameNo}
use Rattle.parts.specs.declared.Side.{Side}
use Rattle.parts.specs.declared.Side.TheVariants.{Name, Cell}
use Rattle.model.specs.State.{St, with_names, to, bond}
use Rattle.model.specs.Step.{Answer, moved, refused}
use Rattle.model.specs.Rows.{join, free, count_loop}
use Rattle.model.specs.Follow.{follow, follow_by}
use Rattle.model.specs.Stepped.{fasten, wire, looped}
use Rattle.state.specs.Places.{stored}
use Rattle.state.specs.Places as Places
use Rattle.state.specs.Moves.{put_on}
use Rattle.wiring.specs.Wiring.{pick, end_of, loosened, dropped, fastened, wired}

-- A side followed: its end, and the state with its tie or join dropped.
pub followed : (t : Side) (s : St)
    → ((follow (plain t) s.names).end ≡ plain (end_of t s)) × (with_names (follow (plain t) s.names).names s ≡ dropped t s)
unfolding end_of dropped stored
followed (Cell c) s = (refl, refl)
followed (Name x) s = go (get_or s.names x.0 0)
  where
    loosed : (u : Plain.Side) → with_names (follow_by x.0 s.names (to u)).names s ≡ loosened x.0 (typed u) s
    loosed (name y) = refl
    loosed (cell c) = refl

    go : (w : ℕ)
        → ((follow_by x.0 s.names (bond w)).end ≡ plain (pick (ltb w 2) (Name x) (typed (side (w - 2)))))
        × (with_names (follow_by x.0 s.names (bond w)).names s ≡ pick (ltb w 2) s (loosened x.0 (typed (side (w - 2))) s))
    go ℕ.zero = (refl, refl)
    go (ℕ.suc ℕ.zero) = (refl, refl)
    go (ℕ.suc (ℕ.suc n)) =
        let k : 2 ≤ suc (suc n) = omega arith in
        let b : ltb (suc (suc n)) 2 ≡ false = le-ltb _ _ k in
        let m : suc (suc n) - 2 ≡ n = omega arith in
        rw (b, m) (sym (plain-typed (side n)), loosed (side n))

-- Two ends fastened, where that is not refused.
pub fastens : (a b : Side) (s : St) → ¬ (fasten (plain a) (plain b) s ≡ refused 13)
    → fasten (plain a) (plain b) s ≡ moved (fastened a b s)
unfolding fastened stored put_on Places.looped
fastens (Name x) (Cell c) s h = ap (λ v. moved (with_names (set s.names x.0 v) s)) (omega arith)
fastens (Cell c) (Name y) s h = ap (λ v. moved (with_names (set s.names y.0 v) s)) (omega arith)
fastens (Cell a) (Cell b) s h = refl
fastens (Name x) (Name y) s h = go (ℕ_discrete x.0 y.0) h
  where
    n : s.loops + 1 ≡ suc s.loops
    n = omega arith

    loops : (e : Dec (s.loops < loops_max))
        → ¬ (elim e as (λ w. Answer) [ yes k ↦ moved (count_loop (free x.0 s)) | no k ↦ refused 13 ] ≡ refused 13)
        → elim e as (λ w. Answer) [ yes k ↦ moved (count_loop (free x.0 s)) | no k ↦ refused 13 ] ≡ moved (count_loop (free x.0 s))
    loops (yes k) h = refl
    loops (no k) h = absurd (h refl)

    go : (d : Dec (x.0 ≡ y.0))
        → ¬ (elim d as (λ w. Answer) [ yes p ↦ looped x.0 s | no p ↦ moved (join x.0 y.0 s) ] ≡ refused 13)
        → elim d as (λ w. Answer) [ yes p ↦ looped x.0 s | no p ↦ moved (join x.0 y.0 s) ]
        ≡ moved (fastened (Name x) (Name y) s)
    go (yes p) h = rw (eq-eqb _ _ p, n) (loops (dec_lt s.loops loops_max) h)
    go (no p) h = rw (ne_eqb _ _ p) (ap₂ (λ v w. moved (with_names (set (set s.names x.0 v) y.0 w) s)) (omega arith) (omega arith))

-- A loop is not refused only where the count is not at its end.
pub counts : (x y : NameNo) (s : St) → x.0 ≡ y.0 → ¬ (fasten (plain (Name x)) (plain (Name y)) s ≡ refused 13)
    → s.loops < loops_max
counts x y s p h = go (dec_lt s.loops loops_max)
  where
    full : ¬ (s.loops < loops_max) → (e : Dec (s.loops < loops_max))
        → elim e as (λ w. Answer) [ yes k ↦ moved (count_loop (free x.0 s)) | no k ↦ refused 13 ] ≡ refused 13
    full f (yes k) = absurd (f k)
    full f (no k) = refl

    at : ¬ (s.loops < loops_max) → (d : Dec (x.0 ≡ y.0))
        → elim d as (λ w. Answer) [ yes p ↦ looped x.0 s | no p ↦ moved (join x.0 y.0 s) ]
        ≡ refused 13
    at f (yes q) = full f (dec_lt s.loops loops_max)
    at f (no q) = absurd (q p)

    go : Dec (s.loops < loops_max) → s.loops < loops_max
    go (yes k) = k
    go (no k) = absurd (h (at k (ℕ_discrete x.0 y.0)))

-- Both sides followed, the ends are fastened.
pub wire_is : (l r : Side) (s : St)
    → wire (plain l) (plain r) s ≡ fasten (plain (end_of l s)) (plain (end_of r (dropped l s))) (dropped r (dropped l s))
wire_is l r s =
    let f = followed l s in
    let g = followed r (dropped l s) in
    by (plain (end_of l s)) (dropped l s) f.0 f.1
    ∙ ap₂ (λ b q. fasten (plain (end_of l s)) b q) g.0 g.1
  where
    -- what follows the first side goes by its end and the state left
    by : (a : Plain.Side) (q : St) → (follow (plain l) s.names).end ≡ a → with_names (follow (plain l) s.names).names s ≡ q
        → wire (plain l) (plain r) s ≡ fasten a (follow (plain r) q.names).end (with_names (follow (plain r) q.names).names q)
    by a q e p = ap₂ (λ a q. fasten a (follow (plain r) q.names).end (with_names (follow (plain r) q.names).names q)) e p

-- The wiring of the model, where it is not refused.
pub wires : (l r : Side) (s : St) → ¬ (wire (plain l) (plain r) s ≡ refused 13) → wire (plain l) (plain r) s ≡ moved (wired l r s)
unfolding wired
wires l r s h =
    wire_is l r s ∙ fastens (end_of l s) (end_of r (dropped l s)) (dropped r (dropped l s)) (λ e. h (wire_is l r s ∙ e))
