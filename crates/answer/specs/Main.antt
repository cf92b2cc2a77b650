-- The theorems on the call that reads the end, in one place.
use Rattle.std.proofs.Common.{◌≡◌, cond, List, [], ◌∷◌, ◌++◌, leb, length, drop, get_or, pred, Result, Ok, Err, sym, ap, ap₂, ◌∙◌, arith, ℕ, zero, suc, ◌<◌}
use Rattle.std.proofs.Math.Path.{refl}
use Rattle.model.specs.Sound.{meaning}
use Rattle.model.specs.Walk.{Walk}
use Rattle.table.specs.Layout.{agents_in}
use Rattle.state.specs.Layout.{view}
use Rattle.sound.specs.Lent.{under}
use Rattle.lent.specs.Both.{BothSound, sound_table_lem, sound-state}
use Rattle.lent.specs.Decided.{where_sound, where_not}
use Rattle.answers.specs.Answer.{Answer, answer}
use Rattle.answers.specs.Printer.{state_answer, answer_bytes}
use Rattle.answers.specs.Text.{line_of_face, answer_text}
use Rattle.answers.specs.Printing.{answer_written}
use Rattle.answers.proofs.Main.{state-printed, bytes-printed, no_two_tonnages, same_line}
use Rattle.parts.specs.Faults.{fault_number}
use Rattle.parts.specs.declared.faults.Fault.{Fault}
use Rattle.parts.specs.declared.faults.Fault.TheVariants.{LongText, BadByte, BadRecord, Misspelt, TooBig, DeclaredTwice, WrongArguments, WrongNames, PairTaken, OneSided, CountsDiffer, NoPick, NoRoom, Waits, LongAnswer, Unsound, LargeBudget}
use Rattle.answer.specs.Called.{Told, number, lines, end_told, Called, given, fitted, ended, called}
use Rattle.answer.specs.declared.End.{End}

-- The refusal with a number of document 01.
abbrev pub fault_of : ℕ → Fault
fault_of n =
    get_or (LongText ∷ BadByte ∷ BadRecord ∷ Misspelt ∷ TooBig ∷ DeclaredTwice ∷ WrongArguments ∷ WrongNames ∷ PairTaken ∷ OneSided ∷ CountsDiffer ∷ NoPick ∷ NoRoom ∷ Waits ∷ LongAnswer ∷ Unsound ∷ LargeBudget ∷ []) (pred n) LongText

pub fault_back : (f : Fault) → fault_of (fault_number f) ≡ f
fault_back LongText = refl
fault_back BadByte = refl
fault_back BadRecord = refl
fault_back Misspelt = refl
fault_back TooBig = refl
fault_back DeclaredTwice = refl
fault_back WrongArguments = refl
fault_back WrongNames = refl
fault_back PairTaken = refl
fault_back OneSided = refl
fault_back CountsDiffer = refl
fault_back NoPick = refl
fault_back NoRoom = refl
fault_back Waits = refl
fault_back LongAnswer = refl
fault_back Unsound = refl
fault_back LargeBudget = refl

-- No two answers are told alike.
abbrev pub answer_of : Told → Result End Fault
answer_of (number n) = Err (fault_of n)
answer_of (lines l n k m) = Ok (record { length = l; loops = n; stuck = k; knot = m })

pub answer_back : (g : Result End Fault) → answer_of (end_told g) ≡ g
answer_back (Ok e) = refl
answer_back (Err f) = ap Err (fault_back f)

pub told-once : (g h : Result End Fault) → end_told g ≡ end_told h → g ≡ h
told-once g h e = sym (answer_back g) ∙ (ap answer_of e ∙ answer_back h)

-- What the call promises is met by one answer and one output only.
pub only-answer : (w v o : List ℕ) (g h : Result End Fault) (p q : List ℕ) → given (end_told g) p ≡ called w v o
    → given (end_told h) q ≡ called w v o → (g ≡ h) × (p ≡ q)
only-answer w v o g h p q a b = (told-once g h (ap (λ c. c.told) (a ∙ sym b)), ap (λ c. c.out) (a ∙ sym b))

-- 16 first, and for nothing else; then 14.
module _ (w v o : List ℕ) where
  pub unsound_refused : ¬ BothSound w v → called w v o ≡ given (number 16) o
  unfolding called
  unsound_refused h = where_not w v _ (given (number 16) o) h

  module _ (h : BothSound w v) where
    sound-called : called w v o ≡ ended (view v) (answer_written (agents_in w) (under w) (view v)) o
    unfolding called
    sound-called = where_sound w v _ (given (number 16) o) h

    pub waiting-refused : 0 < (view v).waiting.used → called w v o ≡ given (number 14) o
    unfolding ended
    waiting-refused b = sound-called ∙ go (view v).waiting.used b
      where
        go : (n : ℕ) → 0 < n
            → elim n [ zero ↦ fitted (view v) (answer_written (agents_in w) (under w) (view v)) o | suc k ↦ given (number 14) o ]
            ≡ given (number 14) o
        go zero b = absurd (omega (arith, b))
        go (suc n) b = refl

-- How an answer is handed over: its lines, their length, and its numbers; 15 where the output is shorter.
unfoldable pub handed : Answer → List ℕ → List ℕ → Called
handed A text o =
    cond
    (leb (length text) (length o))
    (given (lines (length text) A.loops A.stuck A.knot) (text ++ drop (length text) o))
    (given (number 15) o)

-- At the end what is handed over is the answer of the net that the state stands for.
pub net-answered : (w v o : List ℕ) (h : BothSound w v) → (view v).waiting.used ≡ 0
    → called w v o
    ≡ handed (answer (meaning (sound-state h))) (answer_text (agents_in w) (answer (meaning (sound-state h)))) o
unfolding ended fitted handed answer_bytes state_answer
net-answered w v o h e =
    let W = answer_written (agents_in w) (under w) (view v) in
    let p = bytes-printed (sound_table_lem h) (agents_in w) (sound-state h) e in
    sound-called w v o h
    ∙ (ap (λ m. elim m [ zero ↦ fitted (view v) W o | suc k ↦ given (number 14) o ]) e
    ∙ (ap₂
    (λ b k. cond (leb (length b) (length o)) (given (lines (length b) (view v).loops (view v).stuck.used k) (b ++ drop (length b) o)) (given (number 15) o))
    p.0
    p.1
    ∙ ap (λ A. handed A (answer_text (agents_in w) A) o) (state-printed (sound_table_lem h) (sound-state h) e)))

-- Two walks of the machine from one sound state to where nothing waits: their `face` lines are the same, to the byte.
pub one_face : (w v v₁ v₂ : List ℕ) → BothSound w v → (h₁ : BothSound w v₁) → (h₂ : BothSound w v₂)
    → Walk (under w) (view v) (view v₁) → (view v₁).waiting.used ≡ 0
    → Walk (under w) (view v) (view v₂) → (view v₂).waiting.used ≡ 0
    → line_of_face (agents_in w) (answer (meaning (sound-state h₁))).face
    ≡ line_of_face (agents_in w) (answer (meaning (sound-state h₂))).face
one_face w v v₁ v₂ h h₁ h₂ a e b f =
    same_line (agents_in w) (no_two_tonnages (sound_table_lem h) (sound-state h) a e (sound-state h₁) b f (sound-state h₂))
