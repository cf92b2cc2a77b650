-- In which case a call that reads the end has which answer, and what it leaves.
use Rattle.std.specs.Prelude.{ℕ, ◌≤◌, ◌<◌, ◌≡◌, refl, List, ◌++◌, ◌↔◌, ◌⊎◌, length, drop, Ok, Err}
use Rattle.std.proofs.Common.{sym, ap, subst, ◌∙◌, inl, inr, arith, le-leb}
use Rattle.std.proofs.Math.Decide.{dec_le}
use Rattle.std.proofs.lemmas.Bool.{lt-leb}
use Rattle.state.specs.Layout.{view}
use Rattle.lent.specs.Both.{BothSound}
use Rattle.lent.specs.Decided.{decided}
use Rattle.answers.specs.Answer.{Answer}
use Rattle.parts.specs.declared.faults.Fault.{Fault}
use Rattle.parts.specs.declared.faults.Fault.TheVariants as Why
use Rattle.answer.specs.declared.End.{End}
use Rattle.review.specs.Answers.{EndAnswer, end_of}
use Rattle.answer.specs.Called.{number, lines, end_told, given, called}
use Rattle.answer.specs.Main.{answer_of, answer_back, unsound_refused, waiting-refused, handed, net-answered}
use Rattle.review.specs.Promises.{AnswerCall, Printed, net_answer, lines_of_net}
use Rattle.review.proofs.Beneath.Told.{exactly}

handed-fits : (A : Answer) (text o : List ℕ) → length text ≤ length o
    → handed A text o ≡ given (lines (length text) A.loops A.stuck A.knot) (text ++ drop (length text) o)
unfolding handed
handed-fits A text o h = rw (le-leb (length text) (length o) h)

handed-long : (A : Answer) (text o : List ℕ) → length o < length text → handed A text o ≡ given (number 15) o
unfolding handed
handed-long A text o h = rw (lt-leb (length text) (length o) h)

module _ (w v o : List ℕ) where
  abbrev pub TooLong : Type 0
  TooLong = (h : BothSound w v) × ((view v).waiting.used ≡ 0) × (length o < length (lines_of_net h))

  pub data AnswerIf : EndAnswer → Type 0 where
    unsound : ¬ BothSound w v → AnswerIf (Err Why.Unsound)
    waits : BothSound w v × (0 < (view v).waiting.used) → AnswerIf (Err Why.Waits)
    long : TooLong → AnswerIf (Err Why.LongAnswer)
    reads : (e : End) → Printed w v o e.length e.loops e.stuck e.knot (called w v o).out → AnswerIf (Ok e)

  pub if_unsound : AnswerIf (Err Why.Unsound) → ¬ BothSound w v
  if_unsound (AnswerIf.unsound h) = h

  pub if_waits : AnswerIf (Err Why.Waits) → BothSound w v × (0 < (view v).waiting.used)
  if_waits (AnswerIf.waits h) = h

  pub if_long : AnswerIf (Err Why.LongAnswer) → TooLong
  if_long (AnswerIf.long h) = h

  pub if_reads : {e : End} → AnswerIf (Ok e) → Printed w v o e.length e.loops e.stuck e.knot (called w v o).out
  if_reads (AnswerIf.reads e h) = h

  -- No other refusal comes.
  pub if_answer_refused : {f : Fault} → AnswerIf (Err f) → (f ≡ Why.Unsound) ⊎ ((f ≡ Why.Waits) ⊎ (f ≡ Why.LongAnswer))
  if_answer_refused (AnswerIf.unsound h) = inl refl
  if_answer_refused (AnswerIf.waits h) = inr (inl refl)
  if_answer_refused (AnswerIf.long h) = inr (inr refl)

  abbrev pub answer_leaves : EndAnswer → List ℕ
  answer_leaves (Ok e) = (called w v o).out
  answer_leaves (Err f) = o

  fits : (h : BothSound w v) → (view v).waiting.used ≡ 0 → length (lines_of_net h) ≤ length o
      → called w v o
      ≡ given
      (lines (length (lines_of_net h)) (net_answer h).loops (net_answer h).stuck (net_answer h).knot)
      (lines_of_net h ++ drop (length (lines_of_net h)) o)
  fits h e b = net-answered w v o h e ∙ handed-fits (net_answer h) (lines_of_net h) o b

  told : {l n k m : ℕ} {o' : List ℕ} (P : Printed w v o l n k m o')
      → lines (length (lines_of_net P.sound)) (net_answer P.sound).loops (net_answer P.sound).stuck (net_answer P.sound).knot
      ≡ lines l n k m
  told P = rw (P.is_long, P.is_loops, P.is_stuck, P.is_knot)

  pub answer_comes : (q : EndAnswer) → AnswerIf q → called w v o ≡ given (end_told q) (answer_leaves q)
  answer_comes q i = go i
    where
      go : {q : EndAnswer} → AnswerIf q → called w v o ≡ given (end_told q) (answer_leaves q)
      go (AnswerIf.unsound h) = unsound_refused w v o h
      go (AnswerIf.waits (h, b)) = waiting-refused w v o h b
      go (AnswerIf.long (h, e, b)) = net-answered w v o h e ∙ handed-long (net_answer h) (lines_of_net h) o b
      go (AnswerIf.reads e P) =
          ap (λ q. given q (called w v o).out) (ap (λ k. k.told) (fits P.sound P.nothing_waits P.fits) ∙ told P)

  pub answer_some : (q : EndAnswer) × AnswerIf q
  answer_some = go (decided w v)
    where
      end : (h : BothSound w v) → (view v).waiting.used ≡ 0 → Dec (length (lines_of_net h) ≤ length o)
          → (q : EndAnswer) × AnswerIf q
      end h e (no b) = (Err Why.LongAnswer, AnswerIf.long (h, e, omega arith))
      end h e (yes b) = (
        end_of (length (lines_of_net h)) (net_answer h).loops (net_answer h).stuck (net_answer h).knot,
        AnswerIf.reads _
            (record {
              sound = h;
              nothing_waits = e;
              fits = b;
              out = ap (λ k. k.out) (fits h e b);
              is_long = refl;
              is_loops = refl;
              is_stuck = refl;
              is_knot = refl;
            }),
      )

      by : (h : BothSound w v) (n : ℕ) → (view v).waiting.used ≡ n → (q : EndAnswer) × AnswerIf q
      by h ℕ.zero e = end h e (dec_le _ _)
      by h (ℕ.suc n) e = (Err Why.Waits, AnswerIf.waits (h, omega (arith, e)))

      go : Dec (BothSound w v) → (q : EndAnswer) × AnswerIf q
      go (no h) = (Err Why.Unsound, AnswerIf.unsound h)
      go (yes h) = by h (view v).waiting.used refl

module _ {w v o : List ℕ} {g : EndAnswer} {o' : List ℕ} (c : AnswerCall w v o g o') where
  pub answer_exactly : (q : EndAnswer) → (g ≡ q) ↔ AnswerIf w v o q
  answer_exactly =
      exactly
      answer_of
      answer_back
      (AnswerIf w v o)
      (λ q i. ap (λ k. k.told) (answer_comes w v o q i))
      (answer_some w v o)
      (ap (λ k. k.told) c.promised)

  left : (q : EndAnswer) → g ≡ q → o' ≡ answer_leaves w v o q
  left q e = ap (λ k. k.out) (c.promised ∙ answer_comes w v o q ((answer_exactly q).0 e))

  pub answer-kept : {f : Fault} → g ≡ Err f → o' ≡ o
  answer-kept {f} e = left (Err f) e

-- The answer was read exactly if it is printed.
module _ {w v o : List ℕ} {l n k m : ℕ} {o' : List ℕ} where
  pub answer-printed : AnswerCall w v o (end_of l n k m) o' → Printed w v o l n k m o'
  answer-printed c =
      subst (Printed w v o l n k m) (sym (ap (λ k. k.out) c.promised)) (if_reads w v o ((answer_exactly c (end_of l n k m)).0 refl))

  pub printed-answer : Printed w v o l n k m o' → AnswerCall w v o (end_of l n k m) o'
  printed-answer P =
      record {
        promised =
            ap (given (lines l n k m)) P.out
            ∙ ap (λ t. given t (lines_of_net P.sound ++ drop (length (lines_of_net P.sound)) o)) (sym (told w v o P))
            ∙ sym (fits w v o P.sound P.nothing_waits P.fits);
      }
