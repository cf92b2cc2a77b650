-- Numbers 5 and 7 on a line whose fields spell terms, after the terms of the lines before it.
use Rattle.std.specs.Prelude.{ℕ, suc, ◌≤◌, ◌<◌, ◌≡◌, Bool, true, ◌||◌, List, ◌∷◌, ◌++◌, ltb, leb, length, drop, Result, Ok, Err, OnOk, ⊤}
use Rattle.std.proofs.Math.Option.{some}
use Rattle.parts.specs.Limits.{text_max, arity_max, face_max, net_equations_max}
use Rattle.parts.specs.Faults.{fault_number}
use Rattle.parts.specs.declared.faults.Fault.{Fault}
use Rattle.texts.specs.Bytes.{all, fields}
use Rattle.texts.specs.Terms.{Term}
use Rattle.texts.specs.Books.{Agent, Net, net_terms}
use Rattle.texts.specs.Answers.{OfLine, fine, fault}
use Rattle.texts.specs.RuleText.{terms_of}
use Rattle.texts.specs.NetText.{net_judged}
use Rattle.lines.specs.Names.{between}
use Rattle.terms.specs.Sheet.{Sheet}
use Rattle.net_lines.specs.Draft.{Draft}

-- What an answer says of a line: it is fine; or the number of its fault.
abbrev pub verdict : {A : Type 0} → Result ⊤ Fault → A → OfLine A
verdict (Ok u) a = fine a
verdict (Err f) a = fault (fault_number f)

-- A line stands from one place to another, where its newline is.
pub record Stands (text : List ℕ) (at end : ℕ) : Type 0 where
  pub begins : at ≤ end
  pub within : end < length text
  pub ended : drop end text ≡ 10 ∷ drop (suc end) text

-- What is asked of a text and its agents throughout.
pub record Fit (text : List ℕ) (ags : List Agent) : Type 0 where
  pub short : length text ≤ text_max
  pub arities : all (λ a. leb a.arity arity_max) ags ≡ true

-- The line spells the terms us, which after the terms ts make the net m; `over` says whether m has too many of them.
pub record Asked
    (text : List ℕ) (ags : List Agent) (at end : ℕ) (over : Bool) (s : Sheet) (cs : List ℕ) (used : ℕ) (ts us : List Term) (m : Net) : Type 0 where
  pub stands : Stands text at end
  pub fit : Fit text ags
  pub terms : terms_of (drop 1 (fields (between text at end))) ≡ some us
  pub net : net_terms m ≡ ts ++ us
  pub too_many : over ≡ (ltb face_max (length m.face) || ltb net_equations_max (length m.equations))
  pub behind : used ≡ length ts
  pub draft : Draft text ags s cs ts

-- The answer, and what stands on the sheet and in the codes where it is fine.
pub record Judged (text : List ℕ) (ags : List Agent) (ts us : List Term) (m : Net) (r : Result ⊤ Fault) (s : Sheet) (cs : List ℕ) : Type 0 where
  pub told : net_judged ags us m ≡ verdict r m
  pub draft : OnOk r (Draft text ags s cs (ts ++ us))
