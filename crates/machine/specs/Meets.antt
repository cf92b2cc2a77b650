-- What two cells that are picked ask, and what comes of them, by the model's `meet`.
use Rattle.std.specs.Prelude.{◌≡◌, Bool, true, false, ◌&&◌, List, ℕ, ◌+◌, ◌-◌, ◌<◌, ◌≤◌, leb, get_or, Result, Ok, Err}
use Rattle.parts.specs.Limits.{symbols_max, cells_max, names_max, stuck_max, waiting_max}
use Rattle.parts.specs.Sides.{cell, ◌:=◌}
use Rattle.model.specs.State.{St, equation}
use Rattle.model.specs.Table.{Entry, Table}
use Rattle.model.specs.Step.{moved, refused, rule_of, symbol_of}
use Rattle.model.specs.Stepped.{fire_if, meet}
use Rattle.model.specs.Walk.{one_made}
use Rattle.model.specs.Sound.{Sound}
use Rattle.state.specs.Moves.{out_of_waiting, put_on, Pullable}
use Rattle.state.specs.declared.Pile.TheVariants.{Stucks}
use Rattle.sound.specs.Lent.{under, Usable}
use Rattle.table.specs.Given.{Given}
use Rattle.kept.specs.Right.{Right}
use Rattle.kept.specs.declared.Kept.{Kept}
use Rattle.firing.specs.Built.{Ruled, equations_of, cells_of, names_of}
use Rattle.firing.specs.Fires.{Pairing}
use Rattle.machine.specs.declared.outcome.Made.{Made}
use Rattle.machine.specs.declared.outcome.Stop.{Stop}
use Rattle.machine.specs.declared.outcome.Stop.TheVariants.{Ended, Paused, NoRoom}

-- A cell in use.
pub record InUse (c : ℕ) (s : St) : Type 0 where
  pub inside : c < cells_max
  pub some : 0 < get_or s.symbols c 0

-- Two cells whose symbols are declared, under a usable table.
pub record Symbolled (w : List ℕ) (a b : ℕ) (s : St) : Type 0 where
  pub usable : Usable w
  pub first : InUse a s
  pub second : InUse b s
  pub left : symbol_of a s < symbols_max
  pub right : symbol_of b s < symbols_max

-- The counts that room is asked of.
pub record Countable (waits : ℕ) (k : Kept) : Type 0 where
  pub two : 2 ≤ k.cells
  pub cells : k.cells ≤ cells_max
  pub names : k.names ≤ names_max
  pub waiting : waits ≤ waiting_max

-- "cells in use, less 2, plus the rule's cells, passes 2,048; names in use plus the new ones passes 2,048; waiting, less 1,
-- plus the rule's equations, passes 1,024": none of these.
unfoldable pub room_test : List ℕ → ℕ → ℕ → Kept → Bool
room_test w i waits k =
    leb (k.cells - 2 + cells_of w i) cells_max
    && (leb (k.names + names_of w i) names_max && leb (waits + equations_of w i) waiting_max)

-- Two cells that get stuck.
pub record Stickable (a b k : ℕ) (s : St) : Type 0 where
  pub pullable : Pullable k s
  pub room : s.stuck.used < stuck_max
  pub left : a < cells_max
  pub right : b < cells_max

unfoldable pub stuck_on : ℕ → ℕ → ℕ → St → St
stuck_on a b k s = put_on Stucks (cell a := cell b) (out_of_waiting k s)

-- Two cells with a rule.
pub record Interactable (w : List ℕ) (i a b k : ℕ) (s : St) : Type 0 where
  pub ruled : Ruled w i
  pub pullable : Pullable k s
  pub pairing : Pairing a b s

-- Of a step that was made: whether it was an interaction, by the interactions that the model counts for it.
abbrev pub Counted : ℕ → Bool → Bool → Type 0
Counted n may false = n ≡ 0
Counted n may true = (n ≡ 1) × (may ≡ true)

unfoldable pub Interacting : Entry → Bool → ℕ → ℕ → ℕ → St → Result Made Stop → St → Type 0
Interacting e may a b k s (Ok m) s' =
    (m.interacted ≡ true) × (may ≡ true) × (fire_if e a b (out_of_waiting k s) ≡ moved s') × Right m.kept s'
Interacting e may a b k s (Err Ended) s' = ⊥
Interacting e may a b k s (Err Paused) s' = (may ≡ false) × (s' ≡ s)
Interacting e may a b k s (Err NoRoom) s' = (may ≡ true) × (fire_if e a b (out_of_waiting k s) ≡ refused 13) × (s' ≡ s)

-- Two cells that are the sides of equation number k from the start. An interaction is made only where it may be.
pub record Meetable (w : List ℕ) (a b k : ℕ) (s : St) : Type 0 where
  pub given : Given w
  pub sound : Sound (under w) s
  pub waits : k < s.waiting.used
  pub is : equation k s.waiting.words ≡ (cell a := cell b)

unfoldable pub Meeting : Table → Bool → ℕ → ℕ → ℕ → St → Result Made Stop → St → Type 0
Meeting T may a b k s (Ok m) s' =
    Counted (one_made (rule_of T a b s)) may m.interacted × (meet T a b (out_of_waiting k s) ≡ moved s') × Right m.kept s'
Meeting T may a b k s (Err Ended) s' = ⊥
Meeting T may a b k s (Err Paused) s' = (one_made (rule_of T a b s) ≡ 1) × (may ≡ false) × (s' ≡ s)
Meeting T may a b k s (Err NoRoom) s' =
    (one_made (rule_of T a b s) ≡ 1) × (may ≡ true) × (meet T a b (out_of_waiting k s) ≡ refused 13) × (s' ≡ s)
