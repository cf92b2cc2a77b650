-- Collects of the net that a lent state stands for.
use Rattle.std.specs.Prelude.{ℕ, ◌≡◌, List}
use Rattle.calculus.specs.Terms.{Conf}
use Rattle.calculus.specs.Calculus.{Valid, Collect, Step}
use Rattle.calculus.specs.Descent.{Normal}
use Rattle.calculus.specs.Nets.{◌≈◌}
use Rattle.model.specs.Sound.{meaning, book}
use Rattle.model.proofs.AtEnd.{ended_normal}
use Rattle.model.proofs.Beneath.Walks.{sound-valid}
use Rattle.answers.specs.Answer.{answer}
use Rattle.answers.specs.Collected.{Collects, numbered, fresh}
use Rattle.answers.proofs.Main as Ended
use Rattle.state.specs.Layout.{view}
use Rattle.sound.specs.Lent.{under}
use Rattle.lent.specs.Both.{BothSound, sound_table_lem, sound-state}

module _ {w v : List ℕ} (h : BothSound w v) where
  valid : Valid (meaning (sound-state h))
  valid = sound-valid (sound_table_lem h) (sound-state h)

  pub collects_one : {D E : Conf} → Collects (meaning (sound-state h)) D → ((F : Conf) → Collect D F → ⊥)
      → Collects (meaning (sound-state h)) E → ((F : Conf) → Collect E F → ⊥) → D ≈ E
  collects_one w n u m = Ended.collects_agree valid w n u m

  module _ (e : (view v).waiting.used ≡ 0) {D : Conf} (way : Collects (meaning (sound-state h)) D) where
    normal : Normal (Step (book (under w))) (meaning (sound-state h))
    normal = ended_normal (sound_table_lem h) (sound-state h) e

    pub collects_printed : ((E : Conf) → Collect D E → ⊥)
        → (answer (meaning (sound-state h))).face ≡ (numbered D.face fresh).shown
    collects_printed n = Ended.any_collects valid normal way n

    pub collects_go_on : (E : Conf) × Collects D E × ((F : Conf) → Collect E F → ⊥)
    collects_go_on = Ended.collects_end valid normal way
