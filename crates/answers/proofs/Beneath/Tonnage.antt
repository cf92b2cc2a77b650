-- One net has one answer, in whatever order its steps are made: in the calculus, and for the walks of the machine.
use Rattle.std.specs.Prelude.{◌≡◌, List}
use Rattle.calculus.specs.Terms.{Conf}
use Rattle.calculus.specs.Calculus.{Book, Label, Step, Valid}
use Rattle.calculus.specs.Calculus as Calculus
use Rattle.calculus.specs.Descent.{Steps, Normal}
use Rattle.calculus.proofs.Order.{order_does_not_matter}
use Rattle.calculus.proofs.Beneath.Rename.{≈_sym}
use Rattle.model.specs.State.{St}
use Rattle.model.specs.Table.{Table}
use Rattle.model.specs.Sound.{Sound, meaning}
use Rattle.model.specs.SoundTable.{SoundTable}
use Rattle.model.specs.Walk.{Walk}
use Rattle.model.proofs.AtEnd.{ended_normal}
use Rattle.model.proofs.Demand3.{walks_agree}
use Rattle.answers.specs.Answer.{answer}
use Rattle.answers.specs.Same.{Same}
use Rattle.answers.proofs.Beneath.Same.{same_answer}

pub one_tonnage : {B : Book} → Calculus.Sound B → {C N D : Conf} {M M' : List Label} → Valid C
    → Steps (Step B) C M N → Normal (Step B) N → Steps (Step B) C M' D → Normal (Step B) D
    → Same (answer D) (answer N)
one_tonnage S v w n w' m = same_answer n ((order_does_not_matter S v w n w').ended m).1

pub no_two_tonnages : {T : Table} → SoundTable T → {s s₁ s₂ : St} → Sound T s
    → Walk T s s₁ → s₁.waiting.used ≡ 0 → (h₁ : Sound T s₁)
    → Walk T s s₂ → s₂.waiting.used ≡ 0 → (h₂ : Sound T s₂)
    → Same (answer (meaning h₁)) (answer (meaning h₂))
no_two_tonnages t h w e h₁ v f h₂ =
    same_answer (ended_normal t h₂ f) (≈_sym (((walks_agree t h w e v).1 f).2 h₁ h₂))
