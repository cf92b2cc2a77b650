-- Theorem 5: a stopped run's state is the one after the last step made; and a step is refused exactly where document
-- 01 says.
use Rattle.std.specs.Prelude.{◌≡◌, ◌⊎◌, ◌↔◌, ℕ, ◌≤◌, ◌<◌}
use Rattle.std.proofs.Common.{sym, ◌∙◌, ap, subst, inl, inr, arith}
use Rattle.std.proofs.Math.Decide.{dec_lt}
use Rattle.model.specs.State.{St}
use Rattle.model.specs.Table.{Table}
use Rattle.model.specs.Step.{refused, picked}
use Rattle.model.specs.Stepped.{stepped}
use Rattle.model.specs.Run.{ran}
use Rattle.model.specs.Sound.{Sound}
use Rattle.model.specs.SoundTable.{SoundTable}
use Rattle.model.specs.Walk.{Stopped}
use Rattle.model.specs.Rows.{NoRoom}
use Rattle.model.proofs.Beneath.Refused.{number, refusing}
use Rattle.model.proofs.Beneath.Runs.{MovedOr13, picked-answers, past-answers, run-stopped}
use Rattle.model.proofs.Beneath.Tabled.{roomless}

-- A run from a sound state is a walk by picks 0 to its state, with as many interactions as it says, and stops for its
-- reason.
pub run_is_right : {T : Table} → SoundTable T → (budget : ℕ) {s : St} → Sound T s
    → Stopped T budget s (ran T budget s)
run_is_right t budget {s} h = run-stopped t budget s h

-- Number 12: "pick at or past the number waiting".
pub refused_12 : (T : Table) (s : St) (p : ℕ) → (stepped T s p ≡ refused 12) ↔ (s.waiting.used ≤ p)
refused_12 T s p = (λ e. go e (dec_lt p s.waiting.used), λ h. past-answers T s p h)
  where
    go : stepped T s p ≡ refused 12 → Dec (p < s.waiting.used) → s.waiting.used ≤ p
    go e (yes o) = let z : ◌≡◌ {A = ℕ} 12 13 = subst MovedOr13 e (picked-answers T s p o) in absurd (omega arith)
    go e (no o) = omega arith

-- Number 13, on the picked equation alone.
pub refused_13 : {T : Table} {s : St} → Sound T s → (p : ℕ)
    → (stepped T s p ≡ refused 13) ↔ ((p < s.waiting.used) × NoRoom T s (picked s p))
refused_13 {T} {s} h p = (
  λ e. let o = waits e (dec_lt p s.waiting.used) in (o, refusing h p o e),
  λ k. roomless T s p h k.0 k.1,
)
  where
    waits : stepped T s p ≡ refused 13 → Dec (p < s.waiting.used) → p < s.waiting.used
    waits e (yes o) = o
    waits e (no o) = let z : ◌≡◌ {A = ℕ} 12 13 = ap number (sym (past-answers T s p (omega arith)) ∙ e) in absurd (omega arith)

-- And no step is refused by any other number.
pub no_other : (T : Table) (s : St) (p n : ℕ) → stepped T s p ≡ refused n → (n ≡ 12) ⊎ (n ≡ 13)
no_other T s p n e = go (dec_lt p s.waiting.used)
  where
    go : Dec (p < s.waiting.used) → (n ≡ 12) ⊎ (n ≡ 13)
    go (yes o) = inr (subst MovedOr13 e (picked-answers T s p o))
    go (no o) = inl (ap number (sym e ∙ past-answers T s p (omega arith)))
