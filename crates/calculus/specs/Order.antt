-- Demand 3 for the calculus: whichever equation is picked, the Interactions are the same and so is the end.
use Rattle.std.specs.Prelude.{◌≡◌, List, ℕ, ◌≤◌}
use Rattle.calculus.specs.Terms.{Conf, δ}
use Rattle.calculus.specs.Calculus.{Book, Label, Com, Int, Step}
use Rattle.calculus.specs.Nets.{◌≈◌}
use Rattle.calculus.specs.Descent.{Normal, tally, Ends}

-- How many steps, how many Interactions, and how many of these by rule number i: each is a tally of the labels.
abbrev pub is_interaction : Label → ℕ
is_interaction Com = 0
is_interaction (Int j) = 1

abbrev pub is_use : ℕ → Label → ℕ
is_use i Com = 0
is_use i (Int j) = δ i j

abbrev pub steps : List Label → ℕ
steps M = tally (λ l. 1) M

abbrev pub interactions : List Label → ℕ
interactions M = tally is_interaction M

abbrev pub uses : ℕ → List Label → ℕ
uses i M = tally (is_use i) M

-- What two sequences of steps from one net have in common, where the first has labels M and goes to N, and the second
-- has labels M' and goes to D.
pub record Agreed (B : Book) (M : List Label) (N : Conf) (M' : List Label) (D : Conf) : Type 0 where
  -- the second never comes to more, whatever is counted: steps, Interactions, uses of one rule, or anything else that
  -- labels tell
  pub no_more : (f : Label → ℕ) → tally f M' ≤ tally f M
  -- it can go on to the same net, by what is left of the same steps
  pub goes_on : Ends ◌≈◌ (Step B) D M' M N
  -- and where neither rule applies it has come to as much, and is at the same net
  pub ended : Normal (Step B) D → ((f : Label → ℕ) → tally f M' ≡ tally f M) × (D ≈ N)
