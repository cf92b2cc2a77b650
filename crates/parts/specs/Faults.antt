-- Document 01's numbers of the refusals.
use Rattle.std.specs.Prelude.{◌≡◌, refl, ℕ, pred, List, [], ◌∷◌, get_or, Result, Ok, Err}
use Rattle.std.proofs.Common.{sym, ap, ◌∙◌}
use Rattle.parts.specs.declared.faults.Fault.{Fault}
use Rattle.parts.specs.declared.faults.Fault.TheVariants.{LongText, BadByte, BadRecord, Misspelt, TooBig, DeclaredTwice, WrongArguments, WrongNames, PairTaken, OneSided, CountsDiffer, NoPick, NoRoom, Waits, LongAnswer, Unsound, LargeBudget}

abbrev pub fault_number : Fault → ℕ
fault_number LongText = 1
fault_number BadByte = 2
fault_number BadRecord = 3
fault_number Misspelt = 4
fault_number TooBig = 5
fault_number DeclaredTwice = 6
fault_number WrongArguments = 7
fault_number WrongNames = 8
fault_number PairTaken = 9
fault_number OneSided = 10
fault_number CountsDiffer = 11
fault_number NoPick = 12
fault_number NoRoom = 13
fault_number Waits = 14
fault_number LongAnswer = 15
fault_number Unsound = 16
fault_number LargeBudget = 17

-- The number that is told: 0 where nothing is wrong.
abbrev pub number_told : {A : Type 0} → Result A Fault → ℕ
number_told (Ok a) = 0
number_told (Err f) = fault_number f

-- No two refusals have one number.
named : ℕ → Fault
named n = get_or (LongText ∷ BadByte ∷ BadRecord ∷ Misspelt ∷ TooBig ∷ DeclaredTwice ∷ WrongArguments ∷ WrongNames ∷ PairTaken ∷ OneSided ∷ CountsDiffer ∷ NoPick ∷ NoRoom ∷ Waits ∷ LongAnswer ∷ Unsound ∷ LargeBudget ∷ []) n LongText

named-number : (f : Fault) → named (pred (fault_number f)) ≡ f
unfolding named
named-number LongText = refl
named-number BadByte = refl
named-number BadRecord = refl
named-number Misspelt = refl
named-number TooBig = refl
named-number DeclaredTwice = refl
named-number WrongArguments = refl
named-number WrongNames = refl
named-number PairTaken = refl
named-number OneSided = refl
named-number CountsDiffer = refl
named-number NoPick = refl
named-number NoRoom = refl
named-number Waits = refl
named-number LongAnswer = refl
named-number Unsound = refl
named-number LargeBudget = refl

pub same_fault : (f g : Fault) → fault_number f ≡ fault_number g → f ≡ g
same_fault f g e = sym (named-number f) ∙ ap (λ n. named (pred n)) e ∙ named-number g
