-- One law for each way out of the call that reads the end.
use Rattle.std.proofs.Common.{◌≡◌, refl, sym, ap, ap₂, ◌∙◌, Bool, true, false, not, List, ◌++◌, ◌↔◌, ℕ, zero, suc, ◌+◌, ◌<◌, ◌≤◌, arith, length, drop, le-leb}
use lib.Seq.{sets, sets-eq}
use borrow.Author.Tests.{not-true, not-false, lt-leb}
use Rattle.table.specs.Layout.{agents_in}
use Rattle.state.specs.Layout.{view}
use Rattle.sound.specs.Lent.{under}
use Rattle.lent.specs.Both.{BothSound}
use Rattle.lent.specs.Decided.{where_sound, where_not}
use Rattle.answers.specs.Printing.{Written, answer_written}
use Rattle.printing.specs.declared.terms.Cursor.{Cursor}
use Rattle.answer.specs.Lines.{Answers}
use Rattle.answer.specs.Called.{number, lines, Called, given, fitted, ended, called}

true_not_false : {A : Type 0} → true ≡ false → A
true_not_false e = absurd (let z : ◌≡◌ {A = ℕ} 0 1 = cc in omega arith)

module _ (w v : List ℕ) (t : Bool) (i : (t ≡ true) ↔ BothSound w v) where
  both_sure : not t ≡ false → BothSound w v
  both_sure h = i.0 (not-false t h)

  pub lent-sound : not t ≡ false → ∥ BothSound w v ∥₁
  lent-sound h = ∣ both_sure h ∣₁

  pub way_unsound : (o : List ℕ) → not t ≡ true → given (number 16) o ≡ called w v o
  unfolding called
  way_unsound o h =
      sym (where_not w v _ (given (number 16) o) (λ b. true_not_false (sym (i.1 b) ∙ not-true t h)))

  module _ (o : List ℕ) (h : not t ≡ false) (n : ℕ) (e : n ≡ (view v).waiting.used) where
    abbrev W : Written
    W = answer_written (agents_in w) (under w) (view v)

    whole : (c : Called) → ended (view v) W o ≡ c → c ≡ called w v o
    unfolding called
    whole c q = sym (where_sound w v (ended (view v) W o) (given (number 16) o) (both_sure h) ∙ q)

    pub way_waits : ¬ (n ≡ 0) → given (number 14) o ≡ called w v o
    unfolding ended
    way_waits some = whole (given (number 14) o) (go (view v).waiting.used (λ z. some (e ∙ z)))
      where
        go : (m : ℕ) → ¬ (m ≡ 0) → elim m [ zero ↦ fitted (view v) W o | suc k ↦ given (number 14) o ] ≡ given (number 14) o
        go zero k = absurd (k refl)
        go (suc m) k = refl

    module _ (none : n ≡ 0) where
      fit : (c : Called) → fitted (view v) W o ≡ c → c ≡ called w v o
      unfolding ended
      fit c q = whole c (ap (λ m. elim m [ zero ↦ fitted (view v) W o | suc k ↦ given (number 14) o ]) (sym e ∙ none) ∙ q)

      pub way_long : (p p' : List ℕ) (r : Cursor) → Answers w v p r p' → length o < r.at → given (number 15) o ≡ called w v o
      unfolding fitted
      way_long p p' r a b = fit (given (number 15) o) (rw (lt-leb (length W.bytes) (length o) (omega (arith, b, a.place))))

      pub way_read : (p p' o' : List ℕ) (r r₁ : Cursor) (l k : ℕ) → Answers w v p r p' → r.at ≤ length o → Answers w v o r₁ o'
          → l ≡ (view v).loops → k ≡ (view v).stuck.used → given (lines r₁.at l k r₁.left) o' ≡ called w v o
      unfolding fitted
      way_read p p' o' r r₁ l k a b a₁ el ek =
          let q : length W.bytes ≤ length o = omega (arith, b, a.place) in
          same ∙ fit (given (lines (length W.bytes) (view v).loops (view v).stuck.used W.after.left) (W.bytes ++ drop (length W.bytes) o)) (rw (le-leb (length W.bytes) (length o) q))
        where
          laid : length W.bytes ≤ length o → sets o 0 W.bytes ≡ W.bytes ++ drop (length W.bytes) o
          laid q =
              let z : 0 + length W.bytes ≡ length W.bytes = omega arith in
              sets-eq W.bytes o 0 (omega (arith, q)) ∙ ap (λ m. W.bytes ++ drop m o) z

          same : given (lines r₁.at l k r₁.left) o'
              ≡ given (lines (length W.bytes) (view v).loops (view v).stuck.used W.after.left) (W.bytes ++ drop (length W.bytes) o)
          same =
              ap₂ (λ x y. given (lines x l k y) o') a₁.place a₁.knot
              ∙ (ap₂ (λ x y. given (lines (length W.bytes) x y W.after.left) o') el ek
              ∙ ap (given (lines (length W.bytes) (view v).loops (view v).stuck.used W.after.left))
              (a₁.bytes ∙ laid (omega (arith, b, a.place))))
