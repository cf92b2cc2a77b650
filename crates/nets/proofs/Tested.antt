-- What the call comes to, by what the test of the table says.
use Rattle.std.specs.Prelude.{ℕ, ◌<◌, ◌≡◌, Bool, true, false, ◌↔◌, List, length}
use Rattle.parts.specs.Limits.{text_max}
use Rattle.model.specs.State.{St}
use Rattle.table.specs.Given.{Given}
use Rattle.nets.specs.Answer.{kept, net_call}
use Rattle.nets.specs.Proofs.Calls.{given-sound, not_given, call_16, call_1}

module _ (w : List ℕ) (t : Bool) (test : (t ≡ true) ↔ Given w) where
  pub sound-lent : t ≡ true → Given w
  sound-lent h = test.0 h

  pub unsound_call : (text : List ℕ) (s : St) → t ≡ false → kept 16 0 s ≡ net_call text w s
  unsound_call text s h = call_16 text w s (not_given w t test h)

  pub long-call : (text : List ℕ) (s : St) → t ≡ true → text_max < length text → kept 1 0 s ≡ net_call text w s
  long-call text s h l = call_1 text w s (given-sound w (sound-lent h)) l
