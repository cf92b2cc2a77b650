-- A step read as a net, by the written rules.
use Rattle.std.specs.Prelude.{ℕ, ◌≤◌, ◌≡◌, refl, List}
use Rattle.std.proofs.Common.{subst, inl, inr, arith}
use Rattle.calculus.specs.Calculus.{Label, Step}
use Rattle.calculus.specs.Calculus as Calculus
use Rattle.calculus.specs.Descent.{Steps, done, more}
use Rattle.calculus.specs.Nets.{◌≈◌}
use Rattle.calculus.specs.Terms.{Conf}
use Rattle.model.specs.Table.{Table, Found}
use Rattle.model.specs.Step.{rule_at}
use Rattle.model.specs.Sound.{book, meaning}
use Rattle.model.specs.Follow.{Coms}
use Rattle.model.proofs.Kept.{step_sound, one_meaning}
use Rattle.model.proofs.Demand2 as Model
use Rattle.model.specs.Follow as Follow
use Rattle.texts.specs.Books.{Book}
use Rattle.texts.specs.Good.{GoodBook}
use Rattle.table.specs.Layout.{table_bytes}
use Rattle.state.specs.Layout.{view}
use Rattle.sound.specs.Lent.{under}
use Rattle.lent.specs.Both.{BothSound, under_is, sound_table_lem, sound-state}
use Rattle.std.specs.Prelude.{Ok}
use Rattle.review.specs.Promises.{StepCall}
use Rattle.review.specs.Rulebook.{Written, ReadWritten}
use Rattle.review.proofs.Beneath.Steps.{step_went}
use Rattle.review.proofs.Beneath.Written.{to_written}

module _ {T : Table} {b : Book} (written : (i : ℕ) (R : Calculus.Rule) → book T i R → Written b i R) where
  communications : {C D C' : Conf} (k : ℕ) → k ≤ 2 → Steps (Step (book T)) C (Coms k) D → D ≈ C'
      → ReadWritten b Found.none C C'
  communications ℕ.zero o done q = ReadWritten.no_change refl q
  communications (ℕ.suc ℕ.zero) o (more (Step.communication c) done) q = ReadWritten.one_communication refl c q
  communications (ℕ.suc (ℕ.suc ℕ.zero)) o (more (Step.communication c) (more (Step.communication d) done)) q =
      ReadWritten.two_communications refl c d q
  communications (ℕ.suc (ℕ.suc (ℕ.suc k))) o w q = absurd (omega (arith, o))

  read : {k : ℕ} {r : Found} {M : List Label} {C D C' : Conf} → Follow.Labels T k r M → Steps (Step (book T)) C M D
      → D ≈ C' → ReadWritten b r C C'
  read {k = k} (Follow.Labels.communications o) w q = communications k o w q
  read (Follow.Labels.interaction l e) (more (Step.interaction {i = i} {r = R} h c) done) q =
      ReadWritten.one_interaction (inl refl) (written i R h) c q
  read (Follow.Labels.interaction_turned l e) (more (Step.interaction {i = i} {r = R} h c) done) q =
      ReadWritten.one_interaction (inr refl) (written i R h) c q

pub step-reads : (b : Book) → GoodBook b → {w v : List ℕ} {p : ℕ} {v' : List ℕ} → w ≡ table_bytes b → StepCall w v p (Ok tt) v'
    → (h : BothSound w v) (k : BothSound w v')
    → ReadWritten b (rule_at (under w) (view v) p) (meaning (sound-state h)) (meaning (sound-state k))
step-reads b g {w} {v} {p} q c h k =
    let e = (step_went c).2 in
    let r = Model.demand_2 (sound_table_lem h) (sound-state h) p e in
    subst
    (ReadWritten b (rule_at (under w) (view v) p) (meaning (sound-state h)))
    (one_meaning (step_sound (sound_table_lem h) (sound-state h) p e) (sound-state k))
    (read (λ i R u. to_written b g i R (rw (under_is w b g q) at u)) r.kind r.way r.same)
