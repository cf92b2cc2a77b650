-- The two records of terms: what is wrong with a line before its terms are judged, and what it is once they are.
use Rattle.std.specs.Prelude.{ℕ, suc, ◌≡◌, List, [], ◌∷◌, ◌++◌, length, drop, Result, OnOk, MatchResult, ⊤}
use Rattle.std.proofs.Math.Option.{Option, some}
use Rattle.parts.specs.Faults.{fault_number}
use Rattle.parts.specs.declared.faults.Fault.{Fault}
use Rattle.texts.specs.Bytes.{Word, fault2, fields}
use Rattle.texts.specs.Terms.{Term}
use Rattle.texts.specs.Books.{Agent, Net, net_terms}
use Rattle.texts.specs.Answers.{OfLine, fault, need, refuse}
use Rattle.texts.specs.RuleText.{terms_of}
use Rattle.texts.specs.NetText.{face_line, eq_line, net_lines}
use Rattle.texts.specs.Bytes.{ended_line}
use Rattle.terms.specs.Sheet.{Sheet}
use Rattle.net_lines.specs.Draft.{Draft}
use Rattle.net_lines.specs.Judging.{verdict}

-- Numbers 2, 3 and 4 of a line of this shape, and then what is made of its terms.
unfoldable pub passing : (List Word → Option (List Word)) → List ℕ → (List Term → OfLine Net) → OfLine Net
passing shape line g = refuse 2 (fault2 (ended_line line)) (need 3 (shape (fields line)) λ fs. need 4 (terms_of fs) g)

-- The terms of the fields after the first, and what is made of them is made of the line.
pub record Spelt (shape : List Word → Option (List Word)) (line : List ℕ) : Type 0 where
  pub terms : List Term
  pub spelt : terms_of (drop 1 (fields line)) ≡ some terms
  pub goes : (g : List Term → OfLine Net) → passing shape line g ≡ g terms

abbrev pub Shaped : (List Word → Option (List Word)) → List ℕ → Result ⊤ Fault → Type 0
Shaped shape line r = MatchResult r (λ u. Spelt shape line) (λ f. (g : List Term → OfLine Net) → passing shape line g ≡ fault (fault_number f))

-- A `face` line: the answer, and where it is fine the net that stands on the sheet and in the codes.
pub record FaceRead (text : List ℕ) (ags : List Agent) (line : List ℕ) (r : Result ⊤ Fault) (s : Sheet) (cs : List ℕ) : Type 0 where
  pub net : Net
  pub told : face_line ags (ended_line line) ≡ verdict r net
  pub draft : OnOk r (Draft text ags s cs (net_terms net))
  pub bare : net.equations ≡ []
  pub many : OnOk r (suc (length net.face) ≡ length (fields line))

-- An `eq` line after the net m.
pub record EqRead (text : List ℕ) (ags : List Agent) (m : Net) (line : List ℕ) (r : Result ⊤ Fault) (s : Sheet) (cs : List ℕ) : Type 0 where
  pub net : Net
  pub told : eq_line ags m (ended_line line) ≡ verdict r net
  pub draft : OnOk r (Draft text ags s cs (net_terms net))
  pub face : net.face ≡ m.face
  pub terms : List Term
  pub more : OnOk r (net_lines net ≡ net_lines m ++ (terms ∷ []))
  pub one : OnOk r (length net.equations ≡ suc (length m.equations))
