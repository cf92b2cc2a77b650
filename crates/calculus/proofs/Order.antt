-- Demand 3 for the calculus: whichever equation is picked, the Interactions are the same and so is the end.
use Rattle.std.specs.Prelude.{◌≡◌, List, ℕ}
use Rattle.calculus.specs.Terms.{Conf}
use Rattle.calculus.specs.Calculus.{Valid, Book, Sound, Label, Step}
use Rattle.calculus.specs.Descent.{Steps, Normal}
use Rattle.calculus.proofs.Beneath.Descent.{descent, at_most, at_end}
use Rattle.calculus.proofs.Beneath.Order.{calculus_diamond}
use Rattle.calculus.specs.Order.{is_interaction, is_use, steps, interactions, uses, Agreed}

-- Suppose some sequence of Communications and Interactions takes a valid configuration to where neither applies. Then
-- any other agrees with it.
pub order_does_not_matter : {B : Book} → Sound B → {C N D : Conf} {M M' : List Label} → Valid C
    → Steps (Step B) C M N → Normal (Step B) N → Steps (Step B) C M' D → Agreed B M N M' D
order_does_not_matter S v w n w' =
    let k = descent (calculus_diamond S) v w n w' in record { no_more = at_most k; goes_on = k; ended = at_end k }

-- Read for the Interactions, and for the uses of each rule: two runs to an end have made as many.
pub same_interactions : {B : Book} → Sound B → {C N D : Conf} {M M' : List Label} → Valid C
    → Steps (Step B) C M N → Normal (Step B) N → Steps (Step B) C M' D → Normal (Step B) D
    → (steps M' ≡ steps M) × (interactions M' ≡ interactions M) × ((i : ℕ) → uses i M' ≡ uses i M)
same_interactions S v w n w' n' =
    let e = (order_does_not_matter S v w n w').ended n' in (e.0 (λ l. 1), e.0 is_interaction, λ i. e.0 (is_use i))
