-- What it is that a walk agrees with an end of the calculus, and that picks go on and end.
use Rattle.std.specs.Prelude.{◌≡◌, List, ℕ, zero, suc, ◌+◌, ◌*◌, ◌≤◌, ◌<◌}
use Rattle.calculus.specs.Calculus.{Label}
use Rattle.calculus.specs.Nets.{◌≈◌}
use Rattle.calculus.specs.Order.{steps, interactions, uses}
use Rattle.calculus.specs.Terms.{Conf}
use Rattle.parts.specs.Limits.{rule_equations_max}
use Rattle.model.specs.State.{St}
use Rattle.model.specs.Table.{Table}
use Rattle.model.specs.Step.{moved, refused, rule_at}
use Rattle.model.specs.Stepped.{stepped}
use Rattle.model.specs.Sound.{Sound, meaning}
use Rattle.model.specs.Walk.{Walk, stay, take, one_use, made_in}

-- How many steps, and how many uses of rule number i, a walk has.
unfoldable pub steps_in : {T : Table} {s s' : St} → Walk T s s' → ℕ
steps_in stay = 0
steps_in (take p e w) = suc (steps_in w)

unfoldable pub uses_in : {T : Table} {s s' : St} → ℕ → Walk T s s' → ℕ
uses_in i stay = 0
uses_in {T} i (take {s = s} p e w) = one_use i (rule_at T s p) + uses_in i w

-- A walk agrees with labels M to a net N where neither rule of the calculus applies: it makes no more interactions
-- than M, by no rule more; it is no longer than a bound; and where nothing waits it has made as many, each rule as
-- often, and is at the same net up to names, order and sides.
pub record Agrees {T : Table} {s s' : St} (w : Walk T s s') (M : List Label) (N : Conf) : Type 0 where
  pub sound : Sound T s'
  pub no_more : made_in w ≤ interactions M
  pub no_more_uses : (i : ℕ) → uses_in i w ≤ uses i M
  pub few_steps : steps_in w ≤ s.waiting.used + (steps M + rule_equations_max * interactions M)
  pub at_end : s'.waiting.used ≡ 0
      → (made_in w ≡ interactions M) × ((i : ℕ) → uses_in i w ≡ uses i M) × (meaning sound ≈ N)

-- The state after n steps by the picks f 0, f 1, .. (or where one was refused).
unfoldable pub after : Table → (ℕ → ℕ) → ℕ → St → St
after T f zero s = s
after T f (suc n) s = elim (stepped T s (f 0)) [ moved s' ↦ after T (λ k. f (suc k)) n s' | refused k ↦ s ]

-- The picks go on while equations wait, and are never refused for room.
abbrev pub GoesOn : Table → (ℕ → ℕ) → St → Type 0
GoesOn T f s =
    (n : ℕ) → 0 < (after T f n s).waiting.used
    → (f n < (after T f n s).waiting.used) × ¬ (stepped T (after T f n s) (f n) ≡ refused 13)

-- They end: after some steps nothing waits.
pub record Finishes (T : Table) (f : ℕ → ℕ) (s : St) : Type 0 where
  pub end : St
  pub walk : Walk T s end
  pub by_picks : after T f (steps_in walk) s ≡ end
  pub nothing_waits : end.waiting.used ≡ 0
