-- Each number that a text is refused by is that of a fault; and what a call that refuses a rule text has found.
use Rattle.std.specs.Prelude.{ℕ, ◌≡◌, refl, List, ◌↔◌}
use Rattle.parts.specs.Faults.{fault_number}
use Rattle.parts.specs.declared.faults.Fault.{Fault}
use Rattle.parts.specs.declared.faults.Fault.TheVariants as Why
use Rattle.texts.specs.Books.{Agent}
use Rattle.texts.specs.Bytes.{Line}
use Rattle.texts.specs.Refused.{RulesSoFar, RuleWrong, RulesRefused, NetSoFar, NetWrong, NetRefused}
use Rattle.rules.proofs.Main as ReadRules
use Rattle.review.specs.Answers.{refused_on}
use Rattle.review.specs.Promises.{RulesCall}

-- A fault with a number.
abbrev pub Faulty : ℕ → Type 0
Faulty n = (f : Fault) × (fault_number f ≡ n)

rule_wrong : {s : RulesSoFar} {l : Line} {n : ℕ} → RuleWrong s l n → Faulty n
rule_wrong (RuleWrong.two h) = (Why.BadByte, refl)
rule_wrong (RuleWrong.three h) = (Why.BadRecord, refl)
rule_wrong (RuleWrong.four h k) = (Why.Misspelt, refl)
rule_wrong (RuleWrong.five h k) = (Why.TooBig, refl)
rule_wrong (RuleWrong.six h k) = (Why.DeclaredTwice, refl)
rule_wrong (RuleWrong.seven h k) = (Why.WrongArguments, refl)
rule_wrong (RuleWrong.eight h k) = (Why.WrongNames, refl)
rule_wrong (RuleWrong.nine h k) = (Why.PairTaken, refl)
rule_wrong (RuleWrong.ten h k) = (Why.OneSided, refl)

pub rule_fault : {text : List ℕ} {n j : ℕ} → RulesRefused text n j → Faulty n
rule_fault (RulesRefused.too_long h) = (Why.LongText, refl)
rule_fault (RulesRefused.bad_line b) = rule_wrong b.wrong
rule_fault (RulesRefused.absent b) = (Why.BadRecord, refl)
rule_fault (RulesRefused.miscounted b h) = (Why.CountsDiffer, refl)

net_wrong : {ags : List Agent} {s : NetSoFar} {l : Line} {n : ℕ} → NetWrong ags s l n → Faulty n
net_wrong (NetWrong.two h) = (Why.BadByte, refl)
net_wrong (NetWrong.three h) = (Why.BadRecord, refl)
net_wrong (NetWrong.four h k) = (Why.Misspelt, refl)
net_wrong (NetWrong.five h k) = (Why.TooBig, refl)
net_wrong (NetWrong.seven h k) = (Why.WrongArguments, refl)

pub net_fault : {ags : List Agent} {text : List ℕ} {n j : ℕ} → NetRefused ags text n j → Faulty n
net_fault (NetRefused.too_long h) = (Why.LongText, refl)
net_fault (NetRefused.bad_line b) = net_wrong b.wrong
net_fault (NetRefused.absent b) = (Why.BadRecord, refl)
net_fault (NetRefused.absent_face b) = (Why.BadRecord, refl)
net_fault (NetRefused.miscounted b h) = (Why.CountsDiffer, refl)
net_fault (NetRefused.loose_name b e) = (Why.WrongNames, refl)

pub rules-refused : (text table u : List ℕ) (f : Fault) (j : ℕ)
    → RulesCall text table (refused_on f j) u ↔ (RulesRefused text (fault_number f) j × (u ≡ table))
rules-refused text table u f j = (
  λ c. (ReadRules.refused_exactly text table u f j).0 c.promised,
  λ k. record { promised = (ReadRules.refused_exactly text table u f j).1 k },
)
