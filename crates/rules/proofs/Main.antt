-- What the promise of the reader says, in theorems: every answer is told by the text alone, and nothing else is kept.
use Rattle.std.specs.Prelude.{ℕ, Result, Ok, Err, ◌≤◌, ◌≡◌, refl, ◌↔◌, List, length}
use Rattle.std.proofs.Common.{sym, ap, ap₂, ◌∙◌, arith}
use Rattle.std.proofs.Math.Option.{Option, none, some}
use Rattle.parts.specs.Limits.{text_max}
use Rattle.texts.specs.Books.{Book, print_book}
use Rattle.texts.specs.Answers.{OfText, accepted, refused}
use Rattle.texts.specs.RuleText.{read_rules}
use Rattle.texts.specs.Bytes.{Line}
use Rattle.texts.specs.Refused.{RulesSoFar, RuleWrong, two, three, four, five, six, seven, eight, nine, ten, RulesRefused, too_long, bad_line, absent, miscounted}
use Rattle.texts.specs.Good.{GoodBook}
use Rattle.texts.proofs.Main as Texts
use Rattle.table.specs.Layout.{table_bytes}
use Rattle.table.specs.Given.{Given}
use Rattle.rules.specs.Answer.{Refusal, refusal, Leaves, leaves, leaves_by, rules_read}
use Rattle.parts.specs.Faults.{fault_number, same_fault}
use Rattle.parts.specs.declared.faults.Fault.{Fault}
use Rattle.parts.specs.declared.faults.Fault.TheVariants.{LongText, BadByte, BadRecord, Misspelt, TooBig, DeclaredTwice, WrongArguments, WrongNames, PairTaken, OneSided, CountsDiffer}
use Rattle.parts.specs.declared.faults.Refusal.{Refusal as Told}

-- Numbers and lines tell answers apart.
same_refusal : {n k m j : ℕ}
    → ◌≡◌ {A = Option Refusal} (some (record { number = n; line = k })) (some (record { number = m; line = j }))
    → (n ≡ m) × (k ≡ j)
same_refusal {n} {k} {m} {j} e =
    let p : ◌≡◌ {A = Refusal} (record { number = n; line = k }) (record { number = m; line = j }) = cc in
    (ap (λ s. s.number) p, ap (λ s. s.line) p)

none_refused : {B : Type 0} {s : Refusal} → ◌≡◌ {A = Option Refusal} none (some s) → B
none_refused e = absurd (let z : ◌≡◌ {A = ℕ} 0 1 = cc in omega arith)

same_told : (p q : Told) → fault_number p.fault ≡ fault_number q.fault → p.line ≡ q.line → p ≡ q
same_told p q e f = let g : Fault → ℕ → Told = λ a b. record { fault = a; line = b } in ap₂ g (same_fault p.fault q.fault e) f

refusal_tells : (r q : Result (Unit {0}) Told) → refusal r ≡ refusal q → r ≡ q
unfolding refusal
refusal_tells (Ok x) (Ok y) e = refl
refusal_tells (Ok x) (Err q) e = none_refused e
refusal_tells (Err p) (Ok y) e = none_refused (sym e)
refusal_tells (Err p) (Err q) e = let s = same_refusal e in ap Err (same_told p q s.0 s.1)

-- No second answer and no second table meet the promise.
pub only-answer : (text table : List ℕ) (r q : Result (Unit {0}) Told) (u v : List ℕ)
    → leaves r u ≡ rules_read text table → leaves q v ≡ rules_read text table → (r ≡ q) × (u ≡ v)
unfolding leaves
only-answer text table r q u v e f =
    let z = e ∙ sym f in (refusal_tells r q (ap (λ s. s.said) z), ap (λ s. s.table) z)

-- The text decides alone what is said, whatever the lent table holds.
said_same : (x : OfText Book) (v w : List ℕ) → (leaves_by x v).said ≡ (leaves_by x w).said
unfolding leaves_by
said_same (accepted b) v w = refl
said_same (refused n k) v w = refl

pub text_decides : (text v w : List ℕ) → (rules_read text v).said ≡ (rules_read text w).said
unfolding rules_read
text_decides text v w = said_same (read_rules text) v w

-- A text that is accepted is the printed form of a good book, and the table is, in every byte, that of this book.
pub accepted-table : (text table u : List ℕ) → leaves (Ok tt) u ≡ rules_read text table
    → (b : Book) × (text ≡ print_book b) × GoodBook b × (u ≡ table_bytes b)
unfolding leaves rules_read refusal leaves_by
accepted-table text table u h = go (read_rules text) refl h
  where
    go : (x : OfText Book) → read_rules text ≡ x → record { said = none; table = u } ≡ leaves_by x table
        → (b : Book) × (text ≡ print_book b) × GoodBook b × (u ≡ table_bytes b)
    go (accepted b) e k = let p = (Texts.rule-text-accepted text b).0 e in (b, p.0, p.1, ap (λ s. s.table) k)
    go (refused n j) e k = none_refused (ap (λ s. s.said) k)

-- So it is sound: the test of tables says yes of it.
pub accepted-sound : (text table u : List ℕ) → leaves (Ok tt) u ≡ rules_read text table → Given u
accepted-sound text table u h = let p = accepted-table text table u h in (p.0, p.2, p.3)

-- And each good book that is short enough is read as it is printed.
pub printed-read : (b : Book) (table : List ℕ) → GoodBook b → length (print_book b) ≤ text_max
    → leaves (Ok tt) (table_bytes b) ≡ rules_read (print_book b) table
unfolding leaves rules_read refusal leaves_by
printed-read b table g h = rw ((Texts.rule-text-accepted (print_book b) b).1 (refl, g, h))

-- A text is refused with number n on line j exactly where document 01 says so, and the table is as it was.
abbrev pub refusing : ℕ → ℕ → List ℕ → Leaves
refusing n j u = record { said = some (record { number = n; line = j }); table = u }

pub refused_so : (text table u : List ℕ) (n j : ℕ)
    → (refusing n j u ≡ rules_read text table) ↔ (RulesRefused text n j × (u ≡ table))
unfolding rules_read refusal leaves_by
refused_so text table u n j = (to (read_rules text) refl, from)
  where
    to : (x : OfText Book) → read_rules text ≡ x → refusing n j u ≡ leaves_by x table → RulesRefused text n j × (u ≡ table)
    to (accepted b) e k = none_refused (sym (ap (λ s. s.said) k))
    to (refused m i) e k =
        let p : (n ≡ m) × (j ≡ i) = same_refusal (ap (λ s. s.said) k) in
        ((Texts.rule-text-refused text n j).0 (e ∙ rw (p.0, p.1)), ap (λ s. s.table) k)

    from : RulesRefused text n j × (u ≡ table) → refusing n j u ≡ leaves_by (read_rules text) table
    from (r, e) = rw ((Texts.rule-text-refused text n j).1 r, e)

-- So it is of an answer that names the refusal.
pub refused_exactly : (text table u : List ℕ) (f : Fault) (j : ℕ)
    → (leaves (Err (record { fault = f; line = j })) u ≡ rules_read text table) ↔ (RulesRefused text (fault_number f) j × (u ≡ table))
unfolding leaves refusal
refused_exactly text table u f j = refused_so text table u (fault_number f) j

-- Each number that a rule text is refused with has a name.
wrong_named : {s : RulesSoFar} {l : Line} {n : ℕ} → RuleWrong s l n → (f : Fault) × (n ≡ fault_number f)
wrong_named (two h) = (BadByte, refl)
wrong_named (three h) = (BadRecord, refl)
wrong_named (four h k) = (Misspelt, refl)
wrong_named (five h k) = (TooBig, refl)
wrong_named (six h k) = (DeclaredTwice, refl)
wrong_named (seven h k) = (WrongArguments, refl)
wrong_named (eight h k) = (WrongNames, refl)
wrong_named (nine h k) = (PairTaken, refl)
wrong_named (ten h k) = (OneSided, refl)

pub refused_named : (text : List ℕ) (n j : ℕ) → RulesRefused text n j → (f : Fault) × (n ≡ fault_number f)
refused_named text n j (too_long h) = (LongText, refl)
refused_named text n j (bad_line h) = wrong_named h.wrong
refused_named text n j (absent h) = (BadRecord, refl)
refused_named text n j (miscounted h k) = (CountsDiffer, refl)
