-- What a step does, as far as a walk of steps needs it: the labels of the calculus, soundness, cells, what waits.
use Rattle.std.specs.Prelude.{◌≡◌, refl, List, [], ◌∷◌, ◌++◌, ℕ, suc, ◌+◌, ◌*◌, ◌≤◌, ◌<◌, length}
use Rattle.std.proofs.Common.{◌∙◌, ap, arith}
use Rattle.calculus.specs.Calculus.{Book, Label, Com, Int, Step}
use Rattle.calculus.specs.Descent.{tally, Steps, done, more}
use Rattle.calculus.specs.Order.{interactions, uses}
use Rattle.calculus.specs.Terms.{Conf}
use Rattle.parts.specs.Limits.{rule_equations_max}
use Rattle.model.specs.State.{St, used}
use Rattle.model.specs.Table.{Entry, Table, Found, straight, turned, entry}
use Rattle.model.specs.Step.{Answer, moved, refused}
use Rattle.model.specs.Sound.{Sound, meaning}
use Rattle.model.specs.Follow.{Coms}
use Rattle.model.proofs.Beneath.Read.{Read}

-- The cells of the right side that a step of the calculus brings; and at most how many equations it can leave
-- waiting, if no rule puts more than L.
abbrev pub right_cells : Table → Label → ℕ
right_cells T Com = 0
right_cells T (Int i) = length (entry T i).cells

abbrev pub cost : ℕ → Label → ℕ
cost L Com = 1
cost L (Int i) = L

-- The rule that the picked equation fires, if any, tells the labels: k Communications, or one Interaction by that
-- rule.
pub data Kind (T : Table) (k : ℕ) : Found → List Label → Type 0 where
  wiring : {M : List Label} → M ≡ Coms k → Kind T k Found.none M
  by_straight : {M : List Label} {i : ℕ} {e : Entry} → i < length T.rules → entry T i ≡ e → M ≡ Int i ∷ []
      → Kind T k (straight i e) M
  by_turned : {M : List Label} {i : ℕ} {e : Entry} → i < length T.rules → entry T i ≡ e → M ≡ Int i ∷ []
      → Kind T k (turned i e) M

pub record Moves (T : Table) (B : Book) (before : St) (C : Conf) (rule : Found) (k : ℕ) (st : St) : Type 0 where
  pub sound : Sound T st
  pub labels : List Label
  pub kind : Kind T k rule labels
  pub read : Read B C labels (meaning sound)
  pub cells : used st.symbols + 2 * interactions labels ≡ used before.symbols + tally (right_cells T) labels
  pub waits : suc st.waiting.used ≤ before.waiting.used + tally (cost rule_equations_max) labels
  pub shrinks : rule ≡ Found.none
      → suc (st.waiting.used + used st.names) ≤ before.waiting.used + used before.names

abbrev pub Outcome : Table → Book → St → Conf → Found → ℕ → Answer → Type 0
Outcome T B before C rule k (moved st) = Moves T B before C rule k st
Outcome T B before C rule k (refused n) = Unit {0}

pub steps-append : {B : Book} {C D E : Conf} {M M' : List Label} → Steps (Step B) C M D → Steps (Step B) D M' E
    → Steps (Step B) C (M ++ M') E
steps-append done w = w
steps-append (more s v) w = more s (steps-append v w)

pub coms-append : (a b : ℕ) → Coms a ++ Coms b ≡ Coms (a + b)
coms-append ℕ.zero b = let e : b ≡ 0 + b = omega arith in ap Coms e
coms-append (ℕ.suc a) b = let e : suc (a + b) ≡ suc a + b = omega arith in ap (λ l. Com ∷ l) (coms-append a b) ∙ ap Coms e

pub coms-interactions : (k : ℕ) → interactions (Coms k) ≡ 0
coms-interactions ℕ.zero = refl
coms-interactions (ℕ.suc k) = omega (arith, coms-interactions k)

pub coms-uses : (i k : ℕ) → uses i (Coms k) ≡ 0
coms-uses i ℕ.zero = refl
coms-uses i (ℕ.suc k) = omega (arith, coms-uses i k)

pub coms-cells : (T : Table) (k : ℕ) → tally (right_cells T) (Coms k) ≡ 0
coms-cells T ℕ.zero = refl
coms-cells T (ℕ.suc k) = omega (arith, coms-cells T k)

pub coms-cost : (L k : ℕ) → tally (cost L) (Coms k) ≡ k
coms-cost L ℕ.zero = refl
coms-cost L (ℕ.suc k) = omega (arith, coms-cost L k)
