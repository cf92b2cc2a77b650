-- The terms of one line, read onto the sheet, and their codes put behind those that stand.
use Rattle.std.specs.Prelude.{ℕ, ◌*◌, ◌≡◌, Bool, true, List, length, take, Result, IfErr, is_ok, ⊤}
use Rattle.std.proofs.lemmas.List.Edits.{sets}
use Rattle.parts.specs.Limits.{rule_equations_max}
use Rattle.parts.specs.declared.faults.Fault.{Fault}
use Rattle.parts.specs.declared.faults.Fault.TheVariants.{WrongArguments}
use Rattle.texts.specs.Books.{Agent}
use Rattle.terms.specs.Sheet.{Sheet}
use Rattle.line_terms.specs.Fields.{ran, fields_by}

-- n codes put from a place on
abbrev pub put : List ℕ → ℕ → ℕ → List ℕ → List ℕ
put cs used n new = sets cs used (take n new)

-- n fields from a place on were read over some list of codes, which were put where all was right
pub record Took (text : List ℕ) (ags : List Agent) (from to n : ℕ) (s : Sheet) (cs : List ℕ) (used : ℕ) (r : Bool) (s₁ : Sheet) (cs₁ : List ℕ) : Type 0 where
  pub old : List ℕ
  pub new : List ℕ
  pub wide : length old ≡ 2 * rule_equations_max
  pub reads : ran r s₁ new ≡ fields_by text ags to n 0 from s old
  pub puts : r ≡ true → cs₁ ≡ put cs used n new

-- the answer to that: number 7 where not all was right
pub record Numbered (text : List ℕ) (ags : List Agent) (from to n : ℕ) (s : Sheet) (cs : List ℕ) (used : ℕ) (r : Result ⊤ Fault) (s₁ : Sheet) (cs₁ : List ℕ) : Type 0 where
  pub number : IfErr r (λ f. f ≡ WrongArguments)
  pub took : Took text ags from to n s cs used (is_ok r) s₁ cs₁
