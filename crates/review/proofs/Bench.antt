-- The bench cases P1 to P10 of document 01, from the bytes of the two texts to the bytes that are printed; and that the
-- premises of demand 3 are not empty.
use Rattle.std.specs.Prelude.{◌≡◌}
use Rattle.review.specs.Words.{ℕ, List, bytes, StepAnswer}
use Rattle.review.specs.Examples.{text, rules, listing_net, Bench, ackermann_rules, ackermann_net}
use Rattle.review.specs.Picks.{Calls, Premise}
use Rattle.review.proofs.Beneath.{Benched.computed, Benched.ackermann, Made.pick_at, Made.answer_at, Made.state_at, Made.calls_on, Started.start_sound}

-- P1 to P10, to the byte.
pub the_bench : Bench
the_bench = computed

-- The premises of demand 3 hold of the listing: two Interactions;
pub listing-holds : Premise (text rules) (bytes listing_net) 2
listing-holds = the_bench.P1.premise

-- and of the Ackermann book of document 001 with A(2,3): 133 Interactions.
pub ackermann_holds : Premise (text ackermann_rules) (bytes ackermann_net) 133
ackermann_holds = ackermann

-- So what `it-ends` asks for can be had: calls without end in which an equation that waits is picked, and none is refused for
-- room.
pub calls_go_on : {rules net : List ℕ} {many : ℕ} (P : Premise rules net many)
    → (f : ℕ → ℕ) × (r : ℕ → StepAnswer) × (vs : ℕ → List ℕ) × (vs 0 ≡ P.state) × Calls P.table f r vs
calls_go_on P =
    let k = calls_on P.moves (start_sound P.accepted) P.nothing_waits in
    (pick_at P.moves, answer_at P.moves, state_at P.moves, k.0, k.1)
