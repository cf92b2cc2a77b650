-- One law for each way out of the functions by which two cells meet.
use Rattle.std.proofs.Common.{◌≡◌, refl, ap, ap₂, sym, ◌∙◌, Bool, true, false, Option, List, ℕ, ◌+◌, ◌-◌, ◌*◌, ◌<◌, ◌≤◌, pred, arith, leb, get_or, le-leb}
use borrow.Author.Tests.{lt-leb}
use Rattle.parts.specs.Limits.{symbols_max, cells_max, names_max, stuck_max, waiting_max}
use Rattle.parts.specs.Typed.{pair, number}
use Rattle.parts.specs.declared.CellNo.{CellNo}
use Rattle.parts.specs.declared.Equation.{Equation}
use Rattle.parts.specs.declared.Side.TheVariants.{Cell}
use Rattle.model.specs.State.{St}
use Rattle.model.specs.Table.{find}
use Rattle.model.specs.Step.{symbol_of, rule_of}
use Rattle.state.specs.Moves.{out_of_waiting, put_on, RoomOn}
use Rattle.state.specs.declared.Pile.TheVariants.{Stucks}
use Rattle.sound.specs.Lent.{under}
use Rattle.table.specs.Layout.{bytes_of}
use Rattle.table.specs.Layout as Layout
use Rattle.table.specs.Rule.{matched}
use Rattle.table.specs.declared.Match.{Match}
use Rattle.texts.specs.Coded as Coded
use Rattle.kept.specs.declared.Kept.{Kept}
use Rattle.firing.specs.Built.{equations_of, cells_of, names_of}
use Rattle.machine.specs.Meets.{Symbolled, room_test, Stickable, stuck_on}

true_not_false : {A : Type 0} → true ≡ false → A
true_not_false e = absurd (let z : ◌≡◌ {A = ℕ} 0 1 = cc in omega arith)

-- `symbol_at`
pub symbol_is : (s : St) (c v : ℕ) → v ≡ get_or s.symbols c 0 → v - 1 ≡ symbol_of c s
symbol_is s c v e = less v ∙ ap pred e
  where
    less : (n : ℕ) → n - 1 ≡ pred n
    less ℕ.zero = refl
    less (ℕ.suc n) = omega arith

-- `rule_for`
pub first_small : (w : List ℕ) (a b : ℕ) (s : St) (l : ℕ) → Symbolled w a b s → l ≡ symbol_of a s → l < symbols_max
first_small w a b s l f e = omega (arith, f.left)

pub second-small : (w : List ℕ) (a b : ℕ) (s : St) (l : ℕ) → Symbolled w a b s → l ≡ symbol_of b s → l < symbols_max
second-small w a b s l f e = omega (arith, f.right)

pub rule_is : (w : List ℕ) (a b : ℕ) (s : St) (l r : ℕ) (m : Option Match) → Symbolled w a b s → l ≡ symbol_of a s → r ≡ symbol_of b s
    → ((t : Coded.Table) → w ≡ bytes_of t → m ≡ matched (find t.rules 0 l r)) → m ≡ matched (rule_of (under w) a b s)
unfolding under Coded.machine
rule_is w a b s l r m f e q g = g (Layout.view w) f.usable.exact ∙ ap₂ (λ l r. matched (find (under w).rules 0 l r)) e q

-- `room`
module _ (w : List ℕ) (i waits : ℕ) (k : Kept) (c₀ c : ℕ) (ec₀ : c₀ ≡ cells_of w i) (ec : c ≡ c₀) where
  cells_are : c ≡ cells_of w i
  cells_are = ec ∙ ec₀

  module _ (v : Bool) (f : cells_max < k.cells - 2 + c) (e : v ≡ leb (k.cells - 2 + c) cells_max) where
    pub room-cells : v ≡ room_test w i waits k
    unfolding room_test
    room-cells = let z : c ≡ cells_of w i = cells_are in e ∙ rw (← z, lt-leb (k.cells - 2 + c) cells_max f)

    pub room_none : {A : Type 0} → v ≡ true → A
    room_none t = true_not_false (sym t ∙ e ∙ lt-leb (k.cells - 2 + c) cells_max f)

  module _ (fit : k.cells - 2 + c ≤ cells_max) (n₀ n : ℕ) (en₀ : n₀ ≡ names_of w i) (en : n ≡ n₀) (v : Bool) (e : v ≡ leb (k.names + n) names_max) where
    pub room-names : v ≡ false → v ≡ room_test w i waits k
    unfolding room_test
    room-names f =
        let z : c ≡ cells_of w i = cells_are in
        let g : n ≡ names_of w i = en ∙ en₀ in
        let h : leb (k.names + n) names_max ≡ false = sym e ∙ f in
        f ∙ rw (← z, ← g, le-leb (k.cells - 2 + c) cells_max fit, h)

    pub room_all : (m₀ m : ℕ) → v ≡ true → m₀ ≡ equations_of w i → m ≡ m₀ → leb (waits + m) waiting_max ≡ room_test w i waits k
    unfolding room_test
    room_all m₀ m f em₀ em =
        let z : c ≡ cells_of w i = cells_are in
        let g : n ≡ names_of w i = en ∙ en₀ in
        let d : m ≡ equations_of w i = em ∙ em₀ in
        let h : leb (k.names + n) names_max ≡ true = sym e ∙ f in
        rw (← z, ← g, ← d, le-leb (k.cells - 2 + c) cells_max fit, h)

-- `stick`
module _ (s s₁ s₂ : St) (a b : CellNo) (k : ℕ) (q : Equation) (f : Stickable a.0 b.0 k s) (is : q ≡ record { left = Cell a; right = Cell b }) (out : s₁ ≡ out_of_waiting k s) where
  pub stick_room : RoomOn Stucks q s₁
  unfolding out_of_waiting
  stick_room =
      record {
        room = rw out (let e : 1 + 2 * s.stuck.used < 2 * stuck_max = omega (arith, f.room) in e);
        left = omega (arith, f.left, ap (λ d. number d.left) is);
        right = omega (arith, f.right, ap (λ d. number d.right) is);
      }

  pub stick_way : s₂ ≡ put_on Stucks (pair q) s₁ → s₂ ≡ stuck_on a.0 b.0 k s
  unfolding stuck_on
  stick_way e = e ∙ ap₂ (λ d v. put_on Stucks (pair d) v) is out
