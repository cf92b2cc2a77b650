-- Both cells opened: the frame and the state then, and what is kept.
use Prim.Native.Nat.{ℕ, suc, ◌+◌, ◌*◌, ◌-◌, ◌≤◌, min}
use mathlib.Core.Path.{◌≡◌, ap, ◌∙◌}
use mathlib.Core.List.{List}
use native.Mathlib.Omega.{arith}
use lib.ListN.{set}
use lib.Seq.{sets, get_or-set_other}
use Rattle.parts.specs.Limits.{arity_max}
use Rattle.model.specs.State.{St, st}
use Rattle.model.specs.Step.{zero_cell}
use Rattle.model.specs.Step as Step
use Rattle.state.specs.Places.{stored}
use Rattle.state.specs.Moves.{freed}
use Rattle.kept.specs.Right.{Right}
use Rattle.kept.specs.declared.Kept.{Kept}
use Rattle.firing.specs.Frames.{four}
use Rattle.firing.specs.Fires.{Pairing, opened}
use Rattle.firing.specs.Pairs.{emptied-used}

pub open_frame : (a b : ℕ) (s : St) (F F₁ F₂ : List ℕ) → F₁ ≡ sets F 0 (four a s.arguments) → F₂
    ≡ sets F₁ arity_max (four b s.arguments)
    → F₂ ≡ opened a b s F
unfolding opened
open_frame a b s F F₁ F₂ p q = rw (q, p)

pub open_state : (a b : ℕ) (s s₁ s₂ : St) → s₁ ≡ freed a s → s₂ ≡ freed b s₁ → s₂ ≡ freed b (freed a s)
open_state a b s s₁ s₂ p q = rw (q, p)

-- A cell freed.
freed-arguments : (c : ℕ) (s : St) → (freed c s).arguments ≡ zero_cell c s.arguments
unfolding freed stored
freed-arguments c s =
    let e : arity_max * c + 0 ≡ arity_max * c = omega arith in
    let f : arity_max * c + 1 ≡ suc (arity_max * c) = omega arith in
    let g : arity_max * c + 2 ≡ suc (suc (arity_max * c)) = omega arith in
    let h : arity_max * c + 3 ≡ suc (suc (suc (arity_max * c))) = omega arith in
    rw (e, f, g, h)

freed-whole : (c : ℕ) (s : St)
    → freed c s ≡ st (set s.symbols c 0) (zero_cell c s.arguments) s.names s.waiting s.stuck s.face s.loops
unfolding freed stored
freed-whole c s = ap (λ l. st (set s.symbols c 0) l s.names s.waiting s.stuck s.face s.loops) (freed-arguments c s)

-- The state with both freed.
abbrev pub emptied : ℕ → ℕ → St → St
emptied a b s =
    st (Step.freed a b s.symbols) (zero_cell b (zero_cell a s.arguments)) s.names s.waiting s.stuck s.face s.loops

pub opened_is : (a b : ℕ) (s : St) → freed b (freed a s) ≡ emptied a b s
opened_is a b s = ap (freed b) (freed-whole a s) ∙ freed-whole b _

module _ (a b : ℕ) (s : St) (f : Pairing a b s) where
  module _ (k : Kept) (r : Right k s) where
    pub two_used : 2 ≤ k.cells
    two_used = omega (arith, emptied-used a b s f, r.cells)

    pub open_right : (s₁ s₂ : St) (low n : ℕ) → s₁ ≡ freed a s → s₂ ≡ freed b s₁ → n ≡ min a b → low ≡ min k.low_cell n
        → Right (record { cells = k.cells - 2; names = k.names; low_cell = low; low_name = k.low_name }) s₂
    open_right s₁ s₂ low n p q en el =
        rw (open_state a b s s₁ s₂ p q ∙ opened_is a b s)
        (record {
          cells = omega (arith, r.cells, emptied-used a b s f);
          names = r.names;
          cells_taken = λ j h.
              omega (
                arith,
                get_or-set_other (set s.symbols a 0) b j 0 0 (λ e. omega arith),
                get_or-set_other s.symbols a j 0 0 (λ e. omega arith),
                r.cells_taken j (omega arith),
              );
          names_taken = r.names_taken;
          cells_fit = omega (arith, r.cells_fit);
          names_fit = r.names_fit;
        })
