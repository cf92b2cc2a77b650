-- No refusal has the number 0, which says that nothing is wrong.
use Rattle.std.specs.Prelude.{◌≡◌}
use Rattle.std.proofs.Common.{arith}
use Rattle.parts.specs.Faults.{fault_number}
use Rattle.parts.specs.declared.faults.Fault.{Fault}
use Rattle.parts.specs.declared.faults.Fault.TheVariants.{LongText, BadByte, BadRecord, Misspelt, TooBig, DeclaredTwice, WrongArguments, WrongNames, PairTaken, OneSided, CountsDiffer, NoPick, NoRoom, Waits, LongAnswer, Unsound, LargeBudget}

pub fault_some : (f : Fault) → fault_number f ≡ 0 → ⊥
fault_some LongText h = omega arith
fault_some BadByte h = omega arith
fault_some BadRecord h = omega arith
fault_some Misspelt h = omega arith
fault_some TooBig h = omega arith
fault_some DeclaredTwice h = omega arith
fault_some WrongArguments h = omega arith
fault_some WrongNames h = omega arith
fault_some PairTaken h = omega arith
fault_some OneSided h = omega arith
fault_some CountsDiffer h = omega arith
fault_some NoPick h = omega arith
fault_some NoRoom h = omega arith
fault_some Waits h = omega arith
fault_some LongAnswer h = omega arith
fault_some Unsound h = omega arith
fault_some LargeBudget h = omega arith
