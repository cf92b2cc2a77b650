-- The bench cases, and the premise of demand 3 for the Ackermann net, from what was computed.
use Rattle.std.specs.Prelude.{refl}
use Rattle.texts.specs.Bytes.{bytes}
use Rattle.review.specs.Examples.{text, Bench, ackermann_rules, ackermann_net}
use Rattle.review.specs.Picks.{Premise}
use Rattle.review.proofs.Beneath.Shown.{came_of, run_shows}
use Rattle.review.proofs.Beneath.Computed.{both}

pub computed : Bench
computed = both.0

pub ackermann : Premise (text ackermann_rules) (bytes ackermann_net) 133
ackermann = (run_shows (text ackermann_rules) (bytes ackermann_net) 0 (came_of 133 8 0 10 0) both.1 refl).premise
