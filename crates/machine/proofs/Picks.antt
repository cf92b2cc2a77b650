-- One law for each way out of a step on a picked equation.
use Rattle.std.proofs.Common.{◌≡◌, refl, ap, ap₂, subst, sym, ◌∙◌, Bool, true, false, Result, Ok, Err, List, inl, inr, ℕ, ◌+◌, ◌-◌, ◌*◌, ◌<◌, ◌≤◌, arith, eqb, eq-eqb, ne_eqb}
use Rattle.parts.specs.Limits.{names_max, waiting_max, loops_max}
use Rattle.parts.specs.Sides.{cell, ◌:=◌}
use Rattle.parts.specs.Typed.{plain, pair, number}
use Rattle.parts.specs.declared.Equation.{Equation}
use Rattle.parts.specs.declared.NameNo.{NameNo}
use Rattle.parts.specs.declared.CellNo.{CellNo}
use Rattle.parts.specs.declared.Side.{Side}
use Rattle.parts.specs.declared.Side.TheVariants.{Name, Cell}
use Rattle.lent.specs.Both.{given-sound}
use Rattle.model.proofs.Beneath.Tabled.{acts}
use Rattle.model.specs.Walk.{one_made}
use Rattle.model.specs.State.{St, equation}
use Rattle.model.specs.Step.{moved, picked, place, rule_at, rule_for, rule_of, taken_out}
use Rattle.model.specs.Stepped.{act, meet, stepped, wire}
use Rattle.state.specs.Moves.{out_of_waiting}
use Rattle.sound.specs.Lent.{under}
use Rattle.kept.specs.Right.{Right}
use Rattle.kept.specs.declared.Kept.{Kept}
use Rattle.wiring.specs.Keeping.{Came}
use Rattle.wiring.proofs.Modelled.{wires}
use Rattle.wiring.specs.Wiring.{loop_here, Ready, wired}
use Rattle.machine.proofs.Sounds.{live_small, right_out, sides_live, Shown, as_is, turned_round, steps_by, pickable}
use Rattle.machine.specs.Picked.{full_loop, Pickable, Linking, Steppable, Went}
use Rattle.machine.specs.Meets.{Counted, Meetable, Meeting}
use Rattle.machine.specs.declared.outcome.Made.{Made}
use Rattle.machine.specs.declared.outcome.Stop.{Stop}
use Rattle.machine.specs.declared.outcome.Stop.TheVariants.{Ended, Paused, NoRoom}

-- `uncountable`
pub full-asked : (s : St) (l r : Side) (n : ℕ) (t : Bool) → n ≡ s.loops → n ≡ loops_max → t ≡ loop_here l r s → t ≡ full_loop l r s
unfolding full_loop
full-asked s l r n t e f q = rw (eq-eqb s.loops loops_max (sym e ∙ f)) q

pub not_full : (s : St) (l r : Side) (n : ℕ) → n ≡ s.loops → ¬ (n ≡ loops_max) → eqb n loops_max ≡ full_loop l r s
unfolding full_loop
not_full s l r n e f = ne_eqb n loops_max f ∙ rw (ne_eqb s.loops loops_max (λ q. f (e ∙ q)))

-- `wire_picked`
module _ (s : St) (l r : Side) (k : ℕ) (f : Pickable l r k s) (t : Bool) (told : t ≡ full_loop l r s) where
  pub link-full : t ≡ true → Linking l r k s (Err NoRoom) s
  unfolding Linking
  link-full e = (f.full (sym told ∙ e), refl)

  module _ (s₁ : St) (free : t ≡ false) (out : s₁ ≡ out_of_waiting k s) where
    pub link-ready : Ready l r s₁
    link-ready =
        rw out (record { wirable = f.wirable; left = f.left; right = f.right; can = f.free (sym told ∙ free) })

    pub link_right : (q : Kept) → Right q s → Right q s₁
    link_right q g = rw out (right_out s k q g)

    pub linked : (s₂ : St) (q : Kept) → Came s₂ q (wired l r s₁) → Linking l r k s (Ok (record { kept = q; interacted = false })) s₂
    unfolding Linking
    linked s₂ q c =
        let w : wire (plain l) (plain r) (out_of_waiting k s) ≡ moved (wired l r (out_of_waiting k s)) =
        wires l r (out_of_waiting k s) (f.free (sym told ∙ free)) in
        (refl, w ∙ ap moved (sym (c.is ∙ ap (wired l r) out)), c.right)

-- `step_on`: the place, and the equation there
module _ (w : List ℕ) (s : St) (p : ℕ) (f : Steppable w s p) (n : ℕ) (many : n ≡ s.waiting.used) where
  pub place-fits : 1 ≤ n
  place-fits = omega (arith, f.waits)

  pub pick-fits : p ≤ n - 1
  pick-fits = omega (arith, f.waits)

  pub place_inside : 1 + 2 * (n - 1 - p) < 2 * waiting_max
  place_inside = omega (arith, f.waits, f.sound.sizes.waits)

  at : n - 1 - p ≡ place s p
  at = omega (arith, f.waits)

  inside : n - 1 - p < s.waiting.used
  inside = omega (arith, f.waits)

  module _ (e : Equation) (is : pair e ≡ equation (n - 1 - p) s.waiting.words) where
    there : picked s p ≡ pair e
    there = ap (λ k. equation k s.waiting.words) (sym at) ∙ sym is

    left_small : number e.left < names_max
    left_small = live_small s e.left (sides_live (given-sound w f.given) s f.sound (n - 1 - p) e inside is).0

    right_small : number e.right < names_max
    right_small = live_small s e.right (sides_live (given-sound w f.given) s f.sound (n - 1 - p) e inside is).1

    shown : (x : NameNo) → e.left ≡ Name x → Shown (picked s p) (Name x) e.right
    shown x l = as_is (there ∙ ap (λ a. plain a := plain e.right) l)

    shown-turned : (a : CellNo) (y : NameNo) → e.left ≡ Cell a → e.right ≡ Name y → Shown (picked s p) (Name y) (Cell a)
    shown-turned a y l r = turned_round (there ∙ ap₂ (λ a b. plain a := plain b) l r)

    pub name_pickable : (x : NameNo) → e.left ≡ Name x → Pickable (Name x) e.right (n - 1 - p) s
    name_pickable x l =
        pickable (given-sound w f.given) s f.sound p (n - 1 - p) f.waits at (shown x l) (omega (arith, left_small, ap number l)) right_small

    pub turned_pickable : (a : CellNo) (y : NameNo) → e.left ≡ Cell a → e.right ≡ Name y → Pickable (Name y) (Cell a) (n - 1 - p) s
    turned_pickable a y l r =
        pickable (given-sound w f.given) s f.sound p (n - 1 - p) f.waits at (shown-turned a y l r) (omega (arith, right_small, ap number r))
        (omega (arith, left_small, ap number l))

    pub cells_meet : (a b : CellNo) → e.left ≡ Cell a → e.right ≡ Cell b → Meetable w a.0 b.0 (n - 1 - p) s
    cells_meet a b l r =
        record {
          given = f.given;
          sound = f.sound;
          waits = inside;
          is = sym is ∙ ap₂ (λ a b. plain a := plain b) l r;
        }

    none_there : {l r : Side} → Shown (picked s p) l r → one_made (rule_at (under w) s p) ≡ 0
    none_there (as_is q) = ap (λ q. one_made (rule_for (under w) q s)) q
    none_there (turned_round q) = ap (λ q. one_made (rule_for (under w) q s)) q

    went_linking : {l r : Side} (o : Result Made Stop) (may : Bool) (s' : St) → Shown (picked s p) l r → Linking l r (n - 1 - p) s o s'
        → Went (under w) may s p o s'
    unfolding Linking Went
    went_linking (Ok m) may s' c (z, e, g) = (
      subst (Counted (one_made (rule_at (under w) s p)) may) (sym z) (none_there c),
      steps_by (given-sound w f.given) s f.sound p (n - 1 - p) f.waits at c ∙ e,
      g,
    )
    went_linking (Err Ended) may s' c g = absurd g
    went_linking (Err Paused) may s' c g = absurd g
    went_linking (Err NoRoom) may s' c (e, g) =
        (inl (none_there c), steps_by (given-sound w f.given) s f.sound p (n - 1 - p) f.waits at c ∙ e, g)

    pub went-name : (x : NameNo) (o : Result Made Stop) (may : Bool) (s' : St) → e.left ≡ Name x → Linking (Name x) e.right (n - 1 - p) s o s'
        → Went (under w) may s p o s'
    went-name x o may s' l g = went_linking o may s' (shown x l) g

    pub went-turned : (a : CellNo) (y : NameNo) (o : Result Made Stop) (may : Bool) (s' : St) → e.left ≡ Cell a → e.right ≡ Name y
        → Linking (Name y) (Cell a) (n - 1 - p) s o s' → Went (under w) may s p o s'
    went-turned a y o may s' l r g = went_linking o may s' (shown-turned a y l r) g

    pub went-cells : (a b : CellNo) (o : Result Made Stop) (may : Bool) (s' : St) → e.left ≡ Cell a → e.right ≡ Cell b
        → Meeting (under w) may a.0 b.0 (n - 1 - p) s o s' → Went (under w) may s p o s'
    unfolding Meeting Went out_of_waiting
    went-cells a b o may s' l r = go o
      where
        both : picked s p ≡ (cell a.0 := cell b.0)
        both = there ∙ ap₂ (λ a b. plain a := plain b) l r

        made : one_made (rule_at (under w) s p) ≡ one_made (rule_of (under w) a.0 b.0 s)
        made = ap (λ q. one_made (rule_for (under w) q s)) both

        steps : stepped (under w) s p ≡ meet (under w) a.0 b.0 (out_of_waiting (n - 1 - p) s)
        steps =
            acts (under w) s p f.waits
            ∙ (ap (λ q. act (under w) q (taken_out (place s p) s)) both
            ∙ ap (λ m. meet (under w) a.0 b.0 (taken_out m s)) (sym at))

        go : (o : Result Made Stop) → Meeting (under w) may a.0 b.0 (n - 1 - p) s o s' → Went (under w) may s p o s'
        go (Ok q) (m, e, g) = (subst (λ n. Counted n may q.interacted) (sym made) m, steps ∙ e, g)
        go (Err Ended) g = absurd g
        go (Err Paused) (m, y, e) = (made ∙ m, y, e)
        go (Err NoRoom) (m, y, e, g) = (inr y, steps ∙ e, g)
