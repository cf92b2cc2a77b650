-- What a step on a picked equation asks, and what it comes to, by the model's `stepped`.
use Rattle.std.specs.Prelude.{◌≡◌, Bool, true, false, List, ◌⊎◌, ℕ, ◌<◌, eqb, Result, Ok, Err}
use Rattle.parts.specs.Limits.{names_max, loops_max}
use Rattle.parts.specs.Typed.{plain, number}
use Rattle.parts.specs.declared.Side.{Side}
use Rattle.model.specs.State.{St}
use Rattle.model.specs.Table.{Table}
use Rattle.model.specs.Step.{moved, refused, rule_at}
use Rattle.model.specs.Stepped.{wire, stepped}
use Rattle.model.specs.Walk.{one_made}
use Rattle.model.specs.Sound.{Sound}
use Rattle.state.specs.Moves.{out_of_waiting, Pullable}
use Rattle.sound.specs.Lent.{under}
use Rattle.table.specs.Given.{Given}
use Rattle.kept.specs.Right.{Right}
use Rattle.wiring.specs.Wiring.{pick, loop_here, Wirable}
use Rattle.machine.specs.Meets.{Counted}
use Rattle.machine.specs.declared.outcome.Made.{Made}
use Rattle.machine.specs.declared.outcome.Stop.{Stop}
use Rattle.machine.specs.declared.outcome.Stop.TheVariants.{Ended, Paused, NoRoom}

-- A loop, with the count at its end.
unfoldable pub full_loop : Side → Side → St → Bool
full_loop l r s = pick (eqb s.loops loops_max) (loop_here l r s) false

-- What wiring the equation number k from the start asks, where its sides are these, the left one a name.
pub record Pickable (l r : Side) (k : ℕ) (s : St) : Type 0 where
  pub pullable : Pullable k s
  pub wirable : Wirable (out_of_waiting k s)
  pub left : number l < names_max
  pub right : number r < names_max
  -- it is refused just where it is a loop that can't be counted
  pub full : full_loop l r s ≡ true → wire (plain l) (plain r) (out_of_waiting k s) ≡ refused 13
  pub free : full_loop l r s ≡ false → ¬ (wire (plain l) (plain r) (out_of_waiting k s) ≡ refused 13)

-- And what it comes to.
unfoldable pub Linking : Side → Side → ℕ → St → Result Made Stop → St → Type 0
Linking l r k s (Ok m) s' =
    (m.interacted ≡ false) × (wire (plain l) (plain r) (out_of_waiting k s) ≡ moved s') × Right m.kept s'
Linking l r k s (Err Ended) s' = ⊥
Linking l r k s (Err Paused) s' = ⊥
Linking l r k s (Err NoRoom) s' = (wire (plain l) (plain r) (out_of_waiting k s) ≡ refused 13) × (s' ≡ s)

-- Any step on the equation that is picked.
pub record Steppable (w : List ℕ) (s : St) (p : ℕ) : Type 0 where
  pub given : Given w
  pub sound : Sound (under w) s
  pub waits : p < s.waiting.used

unfoldable pub Went : Table → Bool → St → ℕ → Result Made Stop → St → Type 0
Went T may s p (Ok m) s' = Counted (one_made (rule_at T s p)) may m.interacted × (stepped T s p ≡ moved s') × Right m.kept s'
Went T may s p (Err Ended) s' = ⊥
Went T may s p (Err Paused) s' = (one_made (rule_at T s p) ≡ 1) × (may ≡ false) × (s' ≡ s)
Went T may s p (Err NoRoom) s' =
    ((one_made (rule_at T s p) ≡ 0) ⊎ (may ≡ true)) × (stepped T s p ≡ refused 13) × (s' ≡ s)
