-- The calculus has the labelled diamond.
use Rattle.std.specs.Prelude.{◌≡◌, refl, ◌⊎◌}
use Rattle.std.proofs.Common.{ap, inl, inr}
use Rattle.calculus.specs.Terms.{Conf}
use Rattle.calculus.specs.Calculus.{Valid, Book, Sound, Label, Int, Step, communication, interaction}
use Rattle.calculus.specs.Nets.{◌≈◌}
use Rattle.calculus.proofs.Beneath.Diamond.{Meet, Diamond}
use Rattle.calculus.proofs.Beneath.Rename.{≈-equivalence}
use Rattle.calculus.proofs.Beneath.Occurs.{valid-kept}
use Rattle.calculus.proofs.Beneath.Compatible.{compatible}
use Rattle.calculus.proofs.Beneath.Descent.{meet_back}
use Rattle.calculus.proofs.Beneath.Wiring.{communications-meet}
use Rattle.calculus.proofs.Beneath.Pairs.{interaction-communication, interactions-meet}

-- Two steps from a valid configuration are one step, or each can be followed by the other, to the same net.
pub meets : {B : Book} → Sound B → {C D E : Conf} {l m : Label} → Valid C → Step B C l D → Step B C m E
    → ((l ≡ m) × (D ≈ E)) ⊎ Meet ◌≈◌ (Step B) D l E m
meets {B} S v (communication c) (communication d) =
    elim (communications-meet {B = B} v c d) [ inl h ↦ inl (refl, h) | inr h ↦ inr h ]
meets S v (communication c) (interaction b d) = inr (meet_back ≈-equivalence (interaction-communication b d c))
meets S v (interaction b c) (communication d) = inr (interaction-communication b c d)
meets S v (interaction b c) (interaction b' d) =
    elim (interactions-meet S v b b' c d) [ inl h ↦ inl (ap Int h.0, h.1) | inr h ↦ inr h ]

pub calculus_diamond : {B : Book} → Sound B → Diamond ◌≈◌ (Step B) Valid
calculus_diamond S =
    record { equivalence = ≈-equivalence; kept = valid-kept S; compatible = compatible S; meets = meets S }
