-- Whether a lent table and state are sound is decided, so that a promise can go by it.
use Rattle.std.specs.Prelude.{◌≡◌, List, ℕ}
use Rattle.lent.specs.Both.{BothSound}
use Rattle.lent.specs.Proofs.Decisions.{both_decided, chosen, refused}

pub decided : (w v : List ℕ) → Dec (BothSound w v)
decided w v = both_decided w v

-- One of two, by that.
unfoldable pub if_sound : {A : Type 0} → List ℕ → List ℕ → A → A → A
if_sound w v a b = elim (decided w v) [ yes h ↦ a | no h ↦ b ]

module _ {A : Type 0} (w v : List ℕ) (a b : A) where
  pub where_sound : BothSound w v → if_sound w v a b ≡ a
  unfolding if_sound
  where_sound h = chosen a b (decided w v) h

  pub where_not : ¬ BothSound w v → if_sound w v a b ≡ b
  unfolding if_sound
  where_not h = refused a b (decided w v) h
